use Rattle.std.proofs.Common.{◌∙◌, ap, refl, rules, sym, pos, ◌+ℤ◌, FitsSigned, w32, w64}
use Rattle.std.proofs.lemmas.Int.{to_z-of_z}
use Rattle.teco_core.specs.Arguments.{emptied, give}
use Rattle.teco_core.specs.ArgumentsView.{arguments}
use Rattle.teco_step.specs.Values.{code_at, gives_code}
use Rattle.teco_step.proofs.Acting.{goes_left, then_ok}
use Rattle.teco_step.proofs.value.give_code.Goals as goal

pub returns-clause-does : goal.returns-clause-does
returns-clause-does g c =
    let s = g.D.Desk.state c.args.desk.now in
    let a = arguments c.args.args.now in
    let fits_place : FitsSigned w64 c.place_after.result = search rules in
    let n = to_z-of_z w32 c.args.n c.ranges.n in
    let place = to_z-of_z w64 c.place_after.result fits_place ∙ c.place_after.ensures ∙ ap (λ n. pos s.pointer +ℤ n) n in
    let fits : FitsSigned w32 c.code_at-code.result = search rules in
    let code = to_z-of_z w32 c.code_at-code.result fits ∙ c.code_at-code.ensures ∙ ap (code_at s.text) place in
    let given = sym (ap (λ v. give v (emptied a)) code) ∙ c.give_alone.ensures in
    goes_left s a _ _ (gives_code c.args.n s a) _ (then_ok _ _ _ _ given refl) refl
