use Rattle.std.proofs.Common.{◌≡◌, ◌∙◌, ◌+◌, ◌<◌, suc, ap, ap₂, sym, arith, add-one, rules, codes, false, true, length, set}
use Rattle.std.proofs.lemmas.Grind.{common_steps}
use Rattle.std.proofs.lemmas.List.{get_or_default}
use Rattle.std.proofs.Math.ListN.{length-set}
use Rattle.std.proofs.lemmas.List.Edits.{length-remove}
use Rattle.std.specs.Prelude.{remove}
use Rattle.std.specs.Str.{bytes_eq}
use Rattle.std.specs.String.{string_bytes}
use Rattle.teco_cli.specs.Joining.{is_joined, with_value}
use Rattle.teco_cli.proofs.Joinings.{few_stay, from_name, joins, rest_stays, stays}
use Rattle.teco_cli.proofs.line.joining.joined.Goals as goal
use Rattle.teco_cli.proofs.line.joining.joined.Goals.{then-is_joined+in_ok-one, else-is_joined, else-words-test, then-words-test+then-eq}

pub words-init : goal.words-init
words-init c = (omega arith, from_name c.args.words.items)

pub words-preserved : goal.words-preserved
words-preserved c =
    let at = c.words.at in
    let made = c.words.made.items in
    let first = c.index-in-words.result.now in
    let second = c.index-in-words-2.result.now in
    let lt : suc at < length made = omega arith in
    let at_second = rw add-one at c.index-in-words-2.ensures in
    let at_index : c.index.result.now ≡ first = c.index.ensures ∙ (get_or_default made at _ _ (omega arith) ∙ sym c.index-in-words.ensures) in
    let apart : bytes_eq (string_bytes first) (codes "--") ≡ false =
    ap (λ s. bytes_eq (string_bytes s) (codes "--")) (sym at_index) ∙ (ap (λ t. bytes_eq t (codes "--")) (sym c.as_str.ensures.value) ∙ (sym c.eq.ensures ∙ c.if-eq.false)) in
    let asks = ap₂ is_joined (sym c.as_str-in-words.ensures.value) (sym c.as_str-in-words-2.ensures.value) ∙ sym c.is_joined.ensures in
    elim c.if-is_joined.branch [
      | then-is_joined+in_ok-one x ↦
          let one = x.in_ok-one.one in
          let items : c.if-is_joined.made.items ≡ set (remove made (at + 1)) at one = first_of (cc, search rules, grind (arith, common_steps)) in
          let at_first : x.index-then-is_joined.result.now ≡ first = x.index-then-is_joined.ensures ∙ (get_or_default made at _ _ (omega arith) ∙ sym c.index-in-words.ensures) in
          let at_value : x.index-then-is_joined-2.result.now ≡ second = x.index-then-is_joined-2.ensures ∙ (get_or_default made (at + 1) _ _ (omega arith) ∙ sym c.index-in-words-2.ensures) in
          let is : string_bytes one ≡ with_value (string_bytes first) (string_bytes second)
          = x.in_ok-one.ensures ∙ ap₂ with_value (x.as_str-then-is_joined.ensures.value ∙ ap (λ s. string_bytes s) at_first) (x.as_str-then-is_joined-2.ensures.value ∙ ap (λ s. string_bytes s) at_value) in
          (rw items (omega (arith, length-set (remove made (at + 1)) at one, length-remove made (at + 1) (omega arith))), rw (items, add-one) (joins at made one first second lt c.index-in-words.ensures at_second apart (asks ∙ x.if-is_joined.true) is ∙ c.words.invariant.1))
      | else-is_joined x ↦
          let items : c.if-is_joined.made.items ≡ made = ap (λ v. v.items) x.made-is in
          (rw items (omega arith), rw (items, add-one) (stays at made first second lt c.index-in-words.ensures at_second apart (asks ∙ x.if-is_joined.false) ∙ c.words.invariant.1))
    ]

pub returns : goal.returns
returns c =
    let at = c.words.at in
    let made = c.words.made.items in
    elim c.words-test.branch [
      | else-words-test w ↦ sym (few_stay at made (rw (← add-one) (omega arith))) ∙ c.words.invariant.1
      | then-words-test+then-eq w ↦
          let lt : suc at < length made = omega (arith, w.words-test.true) in
          let end : bytes_eq (string_bytes w.index.result.now) (codes "--") ≡ true = ap (λ t. bytes_eq t (codes "--")) (sym w.as_str.ensures.value) ∙ (sym w.eq.ensures ∙ w.if-eq.true) in
          sym (rest_stays at made w.index.result.now lt w.index.ensures end) ∙ c.words.invariant.1
    ]
