use Rattle.std.proofs.Common.{◌≡◌, ◌∙◌, ◌<◌, None, ap, sym, arith, add-one, rules, codes, false, true, length, set}
use Rattle.std.proofs.lemmas.Grind.{common_steps}
use Rattle.std.proofs.lemmas.List.{get_or_default}
use Rattle.std.proofs.Math.ListN.{length-set}
use Rattle.std.specs.Prelude.{option_map, unwrap_or}
use Rattle.std.specs.Str.{bytes_eq}
use Rattle.std.specs.String.{string_bytes}
use Rattle.teco_cli.specs.Backups.{backup_in}
use Rattle.teco_cli.proofs.BackupWords.{changes, from_name, none_changes, rest_stays, stays}
use Rattle.teco_cli.proofs.line.backups.with_backups.Goals as goal
use Rattle.teco_cli.proofs.line.backups.with_backups.Goals.{in-Some, in_default, else-words-test, then-words-test+then-eq}

pub words-init : goal.words-init
words-init c = (omega arith, from_name c.args.words.items)

pub words-preserved : goal.words-preserved
words-preserved c =
    let at = c.words.at in
    let made = c.words.made.items in
    let word = c.index-in-words.result.now in
    let lt : at < length made = omega arith in
    let at_index : c.index.result.now ≡ word = c.index.ensures ∙ (get_or_default made at _ _ (omega arith) ∙ sym c.index-in-words.ensures) in
    let apart : bytes_eq (string_bytes word) (codes "--") ≡ false =
    ap (λ s. bytes_eq (string_bytes s) (codes "--")) (sym at_index) ∙ (ap (λ t. bytes_eq t (codes "--")) (sym c.as_str.ensures.value) ∙ (sym c.eq.ensures ∙ c.if-eq.false)) in
    let asked : option_map (λ s. string_bytes s) c.in_ok-option.field-0 ≡ backup_in (string_bytes word) = c.in_ok-option.ensures ∙ ap backup_in c.as_str-in-words.ensures.value in
    elim c.match-branch-2.branch [
      | in-Some w ↦
          let option = w.in-Some.option in
          let items : c.match-branch-2.made.items ≡ set made at option = first_of (cc, search rules, grind (arith, common_steps)) in
          let is : unwrap_or (backup_in (string_bytes word)) (string_bytes word) ≡ string_bytes option = ap (λ o. unwrap_or o (string_bytes word)) (sym asked ∙ ap (option_map (λ s. string_bytes s)) w.in-Some.is) in
          (rw items (omega (arith, length-set made at option)), rw (items, add-one) (changes at made option word lt c.index-in-words.ensures apart is ∙ c.words.invariant.1))
      | in_default w ↦
          let items : c.match-branch-2.made.items ≡ made = ap (λ v. v.items) w.made-is in
          let none : c.in_ok-option.field-0 ≡ None = first_of (cc, search rules, grind (arith, common_steps)) in
          let is : backup_in (string_bytes word) ≡ None = sym asked ∙ ap (option_map (λ s. string_bytes s)) none in
          (rw items (omega arith), rw (items, add-one) (stays at made word lt c.index-in-words.ensures apart is ∙ c.words.invariant.1))
    ]

pub returns : goal.returns
returns c =
    let at = c.words.at in
    let made = c.words.made.items in
    elim c.words-test.branch [
      | else-words-test w ↦ sym (none_changes at made (omega (arith, w.words-test.false))) ∙ c.words.invariant.1
      | then-words-test+then-eq w ↦
          let lt : at < length made = omega (arith, w.words-test.true) in
          let end : bytes_eq (string_bytes w.index.result.now) (codes "--") ≡ true = ap (λ t. bytes_eq t (codes "--")) (sym w.as_str.ensures.value) ∙ (sym w.eq.ensures ∙ w.if-eq.true) in
          sym (rest_stays at made w.index.result.now lt w.index.ensures end) ∙ c.words.invariant.1
    ]
