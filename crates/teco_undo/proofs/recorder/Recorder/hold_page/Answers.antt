use Rattle.std.proofs.Common.{◌∙◌, ap, length, refl, subst, sym}
use Rattle.teco_undo.specs.Follows.{Recording}
use Rattle.teco_store.specs.Page.{IsAsRead}
use Rattle.teco_store.specs.State.{Body, Full}
use Rattle.teco_undo.proofs.recorder.Recorder.hold_page.Goals as goal

pub returns-in-Some-clause-held : goal.returns-in-Some-clause-held
returns-in-Some-clause-held c =
    let seen = subst (λ (x : Full). IsAsRead x.body c.in-Some.from) (ap (λ (r : Recording). r.full) c.self.view_is) c.in-Some.ensures in
    ((refl, c.requires.there ∙ ap (λ (b : Body). length b.text) (sym c.find_room.ensures.body)), subst (λ (b : Body). IsAsRead b c.in-Some.from) (sym c.find_room.ensures.body) seen)

pub returns-clause-held : goal.returns-clause-held
returns-clause-held c = c.in_ok-held.ensures.ok
