use Rattle.std.proofs.Common.{◌∙◌, ap, ap₂, refl, rules, sym, FitsSigned, inl, w32}
use Rattle.std.proofs.lemmas.Int.{to_z-of_z}
use Rattle.teco_core.specs.Arguments.{emptied, give}
use Rattle.teco_core.specs.ArgumentsView.{arguments}
use Rattle.teco_core.specs.Register.{content}
use Rattle.teco_step.specs.Registers.{byte_asked, register_value}
use Rattle.teco_step.specs.Step.{goes_on}
use Rattle.teco_step.specs.Values.{code_at}
use Rattle.teco_step.proofs.Acting.{goes_left}
use Rattle.teco_step.proofs.Bytes.{gives_byte, gives_nothing}
use Rattle.teco_step.proofs.Own.{own_given_value}
use Rattle.teco_step.proofs.registers.code_or_refusal.Goals as goal

pub returns-in-Some-clause-does : goal.returns-in-Some-clause-does
returns-in-Some-clause-does g c =
    let s = g.D.Desk.state c.args.desk.now in
    let a = arguments c.args.args.now in
    let m = c.args.modifiers in
    let q = c.args.q in
    let n = c.in-Some.n in
    let fits : FitsSigned w32 n = search rules in
    let fits_code : FitsSigned w32 c.code_of.result = search rules in
    let asked = sym c.in-Some.is ∙ c.byte_asked.ensures ∙ ap₂ (byte_asked m) c.profile.ensures c.level.ensures in
    let code = c.code_of.ensures ∙ ap (code_at (content s.registers q).text) (to_z-of_z w32 n fits) in
    let given = sym (ap (λ v. give v (emptied a)) (to_z-of_z w32 c.code_of.result fits_code)) ∙ c.give_alone.ensures in
    goes_left s a (arguments c.give_alone.new.args) _ (register_value m q s a) _ (gives_byte m q n c.code_of.result s a _ asked code given) refl

pub returns-in-None-clause-does : goal.returns-in-None-clause-does
returns-in-None-clause-does g c =
    let s = g.D.Desk.state c.args.desk.now in
    let a = arguments c.args.args.now in
    let m = c.args.modifiers in
    let q = c.args.q in
    let asked = sym c.in-None.is ∙ c.byte_asked.ensures ∙ ap₂ (byte_asked m) c.profile.ensures c.level.ensures in
    record {
      why = inl (record { code = c.args.code; is = refl; refused = ap (goes_on s) (gives_nothing m q c.args.code s a asked c.requires); own = own_given_value _ a c.args.code c.requires });
      state = refl;
      arguments = refl;
      follows = λ t b. b;
    }
