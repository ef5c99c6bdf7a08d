use Rattle.std.proofs.Common.{subst}
use Rattle.std.specs.Option.{IfSome}
use Rattle.teco_store.specs.Page.{IsAsRead}
use Rattle.teco_store.specs.State.{Full}
use Rattle.teco_store.proofs.editor.Editor.place_of_page.Goals as goal

pub returns : goal.returns
returns c =
    let stands = rw (c.halves.ensures.before, c.halves.ensures.after, c.deref.ensures.value) at c.place_read.ensures in
    subst (λ (f : Full). IfSome c.place_read.result (IsAsRead f.body)) c.self.view_is stands
