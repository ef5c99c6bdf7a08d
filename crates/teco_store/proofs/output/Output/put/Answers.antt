use Rattle.std.proofs.Common.{◌≡◌, ◌∙◌, ◌+◌, ◌++◌, ap, append_assoc, arith, length, length-append, List, ℕ}
use Rattle.std.proofs.lemmas.Grind.{common_steps}
use Rattle.teco_store.specs.Output.{source_of}
use Rattle.teco_store.specs.Page.{form_feed_if}
use Rattle.teco_store.specs.Parts.{joined}
use Rattle.teco_store.proofs.Outputs.{put_bytes}
use Rattle.teco_store.proofs.output.Output.put.Goals as goal

pub returns-clause-bytes : goal.returns-clause-bytes
returns-clause-bytes c = λ input inside.
    let o = c.args.self.now in
    let before = c.args.before.now in
    let after = c.args.after.now in
    let flag = form_feed_if c.args.form_feed in
    let more : List ℕ = (before ++ after) ++ flag in
    let adds = c.add.ensures.more in
    let adds_own = adds.own in
    let adds_size = adds.size_is in
    let all = c.requires.counted.own in
    let counted = c.requires.counted.len in
    let count = length before + length after + c.from.result in
    let own : c.append_within-3.new.bytes.items ≡ o.own.items ++ more =
    c.append_within-3.ensures.items ∙ ap (λ (l : List ℕ). c.append_within-2.new.bytes.items ++ l) c.form_feed_bytes.ensures
    ∙ ap (λ (l : List ℕ). l ++ flag) (c.append_within-2.ensures.items ∙ ap (λ (l : List ℕ). l ++ after) c.append_within.ensures.items ∙ append_assoc o.own.items before after)
    ∙ append_assoc o.own.items (before ++ after) flag in
    let last : c.from.result ≡ length flag = grind (arith, common_steps) in
    let long : count ≡ length more = omega (arith, length-append (before ++ after) flag, length-append before after) in
    let own_long : length c.append_within-3.new.bytes.items ≡ length o.own.items + length more = ap length own ∙ length-append o.own.items more in (
      (
        record {
          ordered = adds.ordered;
          own = omega arith;
          len = omega arith;
        },
        adds.ends (length (source_of o input)) inside.1 tt,
      ),
      ap (λ (l : List ℕ). joined l (source_of o input) c.add.new.parts.items) own ∙ put_bytes o.own.items more (source_of o input) o.parts.items c.add.new.parts.items count all long adds,
    )
