use Rattle.std.proofs.Common.{◌≡◌, ◌∙◌, ◌≤◌, ◌++◌, OnOk, ap₂, append_assoc, drop, slice_range, length, List, ℕ, rules, subst, take}
use Rattle.teco_store.specs.Output.{bytes_of}
use Rattle.teco_store.specs.Page.{form_feed_if}
use Rattle.teco_store.proofs.Outputs.{page_then, within_source}
use Rattle.teco_store.proofs.output.Output.store.Goals as goal

pub returns-in-Some-clause-ok : goal.returns-in-Some-clause-ok
returns-in-Some-clause-ok c =
    let input = c.args.input.now in
    let read = take c.args.rest.0 input in
    let page : List ℕ = (c.args.halves.0.now ++ c.args.halves.1.now) ++ form_feed_if c.args.form_feed in
    let stands : (c.in-Some.at ≤ length read) × (drop c.in-Some.at read ≡ page) = search rules in
    subst (λ (l : List ℕ). OnOk c.lend_after.result (bytes_of c.lend_after.new.self input ≡ take c.args.shown (bytes_of c.args.self.now input) ++ l))
    (page_then input page c.in-Some.at c.args.rest.0 c.args.rest.1 c.requires.order stands.0 stands.1) c.lend_after.ensures.ok

pub returns-in_ok-copy-in-None-clause-ok : goal.returns-in_ok-copy-in-None-clause-ok
returns-in_ok-copy-in-None-clause-ok c =
    let input = c.args.input.now in
    let page : List ℕ = (c.args.halves.0.now ++ c.args.halves.1.now) ++ form_feed_if c.args.form_feed in
    (c.lend.ensures.bytes input c.copy.ensures.part (within_source c.copy.new.self input c.args.rest.1 c.requires.within)).1
    ∙ ap₂ ◌++◌ c.in_ok-copy-in-None.ensures.ok (c.lend.ensures.within input c.requires.within)
    ∙ append_assoc (take c.args.shown (bytes_of c.args.self.now input)) page (slice_range input c.args.rest.0 c.args.rest.1)

pub returns-in_ok-copy-in-None-clause-part : goal.returns-in_ok-copy-in-None-clause-part
returns-in_ok-copy-in-None-clause-part c =
    let input = c.args.input.now in
    (c.lend.ensures.bytes input c.copy.ensures.part (within_source c.copy.new.self input c.args.rest.1 c.requires.within)).0
