use Rattle.std.proofs.Common.{◌≡◌, ◌∙◌, ◌++◌, List, ℕ, ap, ap₂, append_assoc, arith, slice_range, take}
use Rattle.std.specs.Arc.{arc_value}
use Rattle.teco_store.specs.Output.{bytes_of}
use Rattle.teco_store.specs.Page.{form_feed_if}
use Rattle.teco_store.proofs.Outputs.{form_feed_short, within_source}
use Rattle.teco_store.proofs.output.Output.share.Goals as goal

pub put-requires-clause-own : goal.put-requires-clause-own
put-requires-clause-own c =
    let room = c.in_ok-make_room.ensures.own in
    let short = form_feed_short c.args.form_feed in
    rw c.lend_text.ensures.own (omega arith)

pub returns-clause-ok : goal.returns-clause-ok
returns-clause-ok c =
    let input = c.args.input.now in
    let shown = take c.args.shown (bytes_of c.args.self.now input) in
    let items = (arc_value c.args.text.now).items in
    let flag = form_feed_if c.args.form_feed in
    let rest = slice_range input c.args.rest.0 c.args.rest.1 in
    let same : (arc_value c.in_ok-text.text).items ≡ items = ap (λ v. v.items) c.in_ok-text.ensures in
    let text : bytes_of c.lend_text.new.self input ≡ shown ++ items = c.lend_text.ensures.bytes ∙ ap₂ ◌++◌ c.in_ok-make_room.ensures.ok same in
    let put = c.put.ensures.bytes input c.lend_text.ensures.part in
    let page : bytes_of c.put.new.self input ≡ (shown ++ items) ++ flag = put.1 ∙ ap (λ (l : List ℕ). l ++ flag) text in
    (c.lend.ensures.bytes input put.0 (within_source c.put.new.self input c.args.rest.1 c.requires.within)).1
    ∙ ap₂ ◌++◌ page (c.lend.ensures.within input c.requires.within)
    ∙ ap (λ (l : List ℕ). l ++ rest) (append_assoc shown items flag)
    ∙ append_assoc shown (items ++ flag) rest

pub returns-clause-part : goal.returns-clause-part
returns-clause-part c =
    let input = c.args.input.now in
    let put = c.put.ensures.bytes input c.lend_text.ensures.part in
    (c.lend.ensures.bytes input put.0 (within_source c.put.new.self input c.args.rest.1 c.requires.within)).0
