use Rattle.std.proofs.Common.{◌∙◌, ap, rules, subst, FitsSigned, w32}
use Rattle.std.proofs.lemmas.Int.{to_z-of_z}
use Rattle.teco_core.specs.ArgumentsView.{arguments}
use Rattle.teco_core.specs.Number.{truth}
use Rattle.teco_step.specs.Control.{leave_or_not}
use Rattle.teco_step.specs.Families.{IsRefusal}
use Rattle.teco_step.specs.Step.{steers, takes_one_or}
use Rattle.teco_step.proofs.Acting.{acts_refused, refused_not_memory, refusal_then}
use Rattle.teco_step.proofs.control.leave_or_not.Goals as goal

pub returns-in_err-n-clause-does : goal.returns-in_err-n-clause-does
returns-in_err-n-clause-does g c =
    let s = g.D.Desk.state c.args.desk.now in
    let a = arguments c.args.args.now in
    let h = c.in_err-n.field-0.0 in
    let fits : FitsSigned w32 c.truth.result = search rules in
    let given = to_z-of_z w32 c.truth.result fits ∙ c.truth.ensures ∙ ap truth c.last_result.ensures in
    let refused = subst (λ n. IsRefusal h (takes_one_or n a)) given c.in_err-n.ensures in
    acts_refused (steers (leave_or_not c.args.modifiers c.args.inside)) s a _ h c.from_residual.result c.from_residual.ensures.1 (refusal_then h _ _ refused)

pub returns-in_err-n-clause-no_memory : goal.returns-in_err-n-clause-no_memory
returns-in_err-n-clause-no_memory g c = refused_not_memory _ _ c.from_residual.result c.from_residual.ensures.1 c.in_err-n.ensures
