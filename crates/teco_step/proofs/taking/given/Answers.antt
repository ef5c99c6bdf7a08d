use Rattle.std.proofs.Common.{FitsSigned, refl, rules, w32}
use Rattle.std.proofs.lemmas.Int.{to_z-of_z}
use Rattle.teco_step.proofs.Acting.{takes_refused}
use Rattle.teco_step.proofs.Own.{own_given_value}
use Rattle.teco_step.proofs.taking.given.Goals as goal

pub returns-in_err-give : goal.returns-in_err-give
returns-in_err-give c =
    let fits : FitsSigned w32 c.args.value = search rules in
    let e = rw (to_z-of_z w32 c.args.value fits) at c.in_err-give.ensures.err in
    takes_refused _ _ _ c.from_residual.result c.from_residual.ensures.1 (record { code = _; is = refl; refused = e; own = own_given_value _ _ _ e })
