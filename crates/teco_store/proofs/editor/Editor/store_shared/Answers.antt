use Rattle.std.proofs.Common.{◌++◌, List, ℕ, arith, length, subst, refl, slice_range}
use Rattle.std.specs.Arc.{arc_value}
use Rattle.teco_store.specs.Output.{bytes_of}
use Rattle.teco_store.specs.Page.{form_feed_if}
use Rattle.teco_store.specs.State.{Extends, Full}
use Rattle.teco_store.specs.View.{body_in}
use Rattle.teco_store.proofs.Sound.{sound_within}
use Rattle.teco_store.proofs.Outputs.{shows}
use Rattle.teco_store.proofs.editor.Editor.store_shared.Goals as goal

pub returns-clause-extends : goal.returns-clause-extends
returns-clause-extends c =
    let e = c.self.inside in
    let input = e.input.items in
    let new = bytes_of c.share.new.self input in
    let page : List ℕ = (arc_value c.args.text.now).items ++ form_feed_if e.form_feed in
    let stores = rw c.deref.ensures.value at c.share.ensures in
    let kept = shows c.share.result (bytes_of e.output input) new (page ++ slice_range input e.place c.args.upto) e.shown c.self.invariant.0.stored stores.ok stores.err in
    subst (λ (f : Full). Extends f (record { body = body_in e; stored = new; room = e.text.cap })) c.self.view_is
    (record { body = refl; stored = kept.0; top = kept.1; room = omega arith })

pub invariant_of-self : goal.invariant_of-self
invariant_of-self c =
    let e = c.self.inside in
    let input = e.input.items in
    let new = bytes_of c.share.new.self input in
    let page : List ℕ = (arc_value c.args.text.now).items ++ form_feed_if e.form_feed in
    let stores = rw c.deref.ensures.value at c.share.ensures in
    let kept = shows c.share.result (bytes_of e.output input) new (page ++ slice_range input e.place c.args.upto) e.shown c.self.invariant.0.stored stores.ok stores.err in
    (sound_within e.text.cap (length (bytes_of e.output input)) (length new) (body_in e) kept.1 c.self.invariant.0, stores.part)
