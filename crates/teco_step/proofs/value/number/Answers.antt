use Rattle.std.proofs.Common.{ap, refl, rules, FitsSigned, w32}
use Rattle.std.proofs.lemmas.Int.{to_z-of_z}
use Rattle.teco_core.specs.ArgumentsView.{arguments}
use Rattle.teco_step.specs.Step.{goes, goes_on}
use Rattle.teco_step.specs.Values.{number}
use Rattle.teco_step.proofs.Acting.{acts_given, acts_refused, refused_not_memory, refusal_made, refusal_then, then_ok}
use Rattle.teco_step.proofs.value.number.Goals as goal

pub returns-in_err-decimal-clause-does : goal.returns-in_err-decimal-clause-does
returns-in_err-decimal-clause-does g c =
    let s = g.D.Desk.state c.args.desk.now in
    let a = arguments c.args.args.now in
    let h = c.in_err-decimal.field-0.0 in
    acts_refused (goes (number c.args.digits.now)) s a _ h c.from_residual.result c.from_residual.ensures.1 (refusal_made h s _ (refusal_then h _ _ c.in_err-decimal.ensures))

pub returns-in_err-decimal-clause-no_memory : goal.returns-in_err-decimal-clause-no_memory
returns-in_err-decimal-clause-no_memory g c =
    refused_not_memory _ _ c.from_residual.result c.from_residual.ensures.1 c.in_err-decimal.ensures

pub returns-clause-does : goal.returns-clause-does
returns-clause-does g c =
    let s = g.D.Desk.state c.args.desk.now in
    let a = arguments c.args.args.now in
    let fits : FitsSigned w32 c.in_ok-decimal.field-0 = search rules in
    let n = to_z-of_z w32 c.in_ok-decimal.field-0 fits in
    acts_given (goes (number c.args.digits.now)) _ _ s _ a _ _ _ c.give.result n
    (ap (goes_on s) (then_ok _ c.in_ok-decimal.field-0 _ _ c.in_ok-decimal.ensures refl)) c.give.ensures.does
