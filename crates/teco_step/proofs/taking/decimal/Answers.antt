use Rattle.std.proofs.Common.{◌∙◌, ap, sym, refl, rules, Ok, FitsSigned, w32}
use Rattle.std.proofs.lemmas.Int.{to_z-of_z}
use Rattle.teco_step.proofs.Acting.{takes_refused}
use Rattle.teco_step.proofs.Own.{own_decimal}
use Rattle.teco_step.proofs.taking.decimal.Goals as goal

pub returns-in_err-decimal : goal.returns-in_err-decimal
returns-in_err-decimal c =
    let e = sym c.in_err-decimal.ensures in
    takes_refused _ _ _ c.from_residual.result c.from_residual.ensures.1 (record { code = _; is = refl; refused = e; own = own_decimal _ _ e })

pub returns : goal.returns
returns c =
    let fits : FitsSigned w32 c.in_ok-decimal.field-0 = search rules in
    sym c.in_ok-decimal.ensures ∙ ap Ok (sym (to_z-of_z w32 c.in_ok-decimal.field-0 fits))
