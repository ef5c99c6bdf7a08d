use Rattle.std.proofs.Common.{◌≡◌, ◌∙◌, ◌+◌, ◌++◌, ℕ, ap, ap₂, arith, length, length-append, rules, slice_range}
use Rattle.std.specs.Arc.{arc_value}
use Rattle.teco_store.specs.Output.{source_of}
use Rattle.teco_store.proofs.Outputs.{bytes_shared, in_shared, slice_after, with_text}
use Rattle.teco_store.proofs.output.Output.lend_text.Goals as goal

pub returns-clause-bytes : goal.returns-clause-bytes
returns-clause-bytes c =
    let o = c.args.self.now in
    let text = c.args.text in
    let items = (arc_value text).items in
    let input = c.args.input.now in
    let long : c.len.result ≡ length items = search rules in
    (c.lend.ensures.bytes input (in_shared o text input c.requires.none c.requires.part) (omega (arith, length-append input items))).1
    ∙ ap₂ ◌++◌ (bytes_shared o text input c.requires.none c.requires.part)
    (ap (λ (n : ℕ). slice_range (source_of (with_text o text) input) (length input) (length input + n)) long ∙ slice_after input items)

pub returns-clause-part : goal.returns-clause-part
returns-clause-part c =
    let o = c.args.self.now in
    let text = c.args.text in
    let items = (arc_value text).items in
    let input = c.args.input.now in
    let long : c.len.result ≡ length items = search rules in
    (c.lend.ensures.bytes input (in_shared o text input c.requires.none c.requires.part) (omega (arith, length-append input items))).0
