use Rattle.std.proofs.Common.{refl, inr}
use Rattle.teco_core.specs.ArgumentsView.{arguments}
use Rattle.teco_step.specs.Registers.{insert_text}
use Rattle.teco_step.specs.Step.{goes}
use Rattle.teco_step.proofs.Acting.{acts_refused, acts_undone, refusal_made, refusal_then}
use Rattle.teco_step.proofs.registers.insert_text.Goals as goal

pub returns-in_err-takes_none : goal.returns-in_err-takes_none
returns-in_err-takes_none g c =
    let s = g.D.Desk.state c.args.desk.now in
    let a = arguments c.args.args.now in
    let h = c.in_err-takes_none.field-0.0 in
    acts_refused (goes (insert_text c.args.q)) s a _ h c.from_residual.result c.from_residual.ensures.1 (refusal_made h s _ (refusal_then h _ _ c.in_err-takes_none.ensures))

pub returns-in_err-text : goal.returns-in_err-text
returns-in_err-text g c =
    let s = g.D.Desk.state c.args.desk.now in
    let a = arguments c.args.args.now in
    acts_undone (goes (insert_text c.args.q)) s s a _ _ _ c.from_residual-in_err-text.result c.from_residual-in_err-text.ensures.1 (inr c.in_err-text.ensures.err) refl (λ t b. b)
