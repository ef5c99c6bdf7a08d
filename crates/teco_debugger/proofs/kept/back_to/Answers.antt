use Rattle.std.proofs.Common.{◌∙◌, ◌<◌, ap, arith, subst, sym}
use Rattle.teco_session.specs.History.{History, undone}
use Rattle.teco_session.specs.Kept.{history_of}
use Rattle.teco_debugger.proofs.Returning.{on_ok}
use Rattle.teco_debugger.proofs.kept.back_to.Goals as goal

pub loop-done-preserved : goal.loop-done-preserved
loop-done-preserved c =
    let here = c.loop-done.invariant in
    let some : 0 < (history_of c.loop-done.session).cursor = subst (λ (h : History). 0 < h.cursor) (sym here) (omega arith) in
    on_ok c.undo.result (c.undo.ensures.offers.1 some) c.undo.ensures.history ∙ ap undone here

pub returns : goal.returns
returns c = (c.loop-done.done, omega arith, c.loop-done.invariant)
