use Rattle.std.proofs.Common.{◌∙◌, ap, refl, rules, sym, FitsSigned, w32}
use Rattle.std.proofs.lemmas.Int.{to_z-of_z}
use Rattle.teco_core.specs.Arguments.{give}
use Rattle.teco_core.specs.ArgumentsView.{arguments}
use Rattle.teco_step.specs.Registers.{register_value}
use Rattle.teco_step.proofs.Acting.{goes_left}
use Rattle.teco_step.proofs.Bytes.{gives_value}
use Rattle.teco_step.proofs.registers.register_value.Goals as goal

pub returns-in-Ok-clause-does : goal.returns-in-Ok-clause-does
returns-in-Ok-clause-does g c =
    let s = g.D.Desk.state c.args.desk.now in
    let a = arguments c.args.args.now in
    let m = c.args.modifiers in
    let q = c.args.q in
    let v = c.value_of.result in
    let fits : FitsSigned w32 v = search rules in
    let given = sym (ap (λ v. give v a) (to_z-of_z w32 v fits)) ∙ c.in-Ok.ensures.ok in
    goes_left s a (arguments c.give.new.self) _ (register_value m q s a) _ (gives_value m q v s a _ c.value_of.ensures given) refl
