use Rattle.teco_core.specs.ArgumentsView.{arguments}
use Rattle.teco_step.specs.Editing.{forward}
use Rattle.teco_step.specs.Step.{goes}
use Rattle.teco_step.proofs.Acting.{acts_refused, refusal_made, refusal_then}
use Rattle.teco_step.proofs.edit.forward.Goals as goal

pub returns-in_err-n : goal.returns-in_err-n
returns-in_err-n g c =
    let s = g.D.Desk.state c.args.desk.now in
    let a = arguments c.args.args.now in
    let h = c.in_err-n.field-0.0 in
    acts_refused (goes forward) s a _ h c.from_residual.result c.from_residual.ensures.1 (refusal_made h s _ (refusal_then h _ _ c.in_err-n.ensures))
