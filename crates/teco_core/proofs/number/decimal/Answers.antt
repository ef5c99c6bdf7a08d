use Rattle.std.proofs.Common.{FitsSigned, w32, refl, sym, arith, rules}
use Rattle.std.proofs.lemmas.Int.{to_z-of_z}
use Rattle.std.proofs.lemmas.Result.{err_from_is_err_and}
use Rattle.teco_core.specs.Number.{digits_value}
use Rattle.teco_core.proofs.Digits.{next-ok, next-err}
use Rattle.teco_core.proofs.number.decimal.Goals as goal

pub loop-digit-init : goal.loop-digit-init
unfolding digits_value
loop-digit-init c = refl

pub returns-in_err-value : goal.returns-in_err-value
returns-in_err-value c =
    let p = err_from_is_err_and c.from_residual.result c.from_residual.ensures.1 in
    rw (p.1, p.2) (sym (next-err c.args.digits.now c.loop-digit.digit-index 0 _ _ (omega arith) c.loop-digit.invariant (sym c.in_err-value.ensures)))

pub loop-digit-preserved : goal.loop-digit-preserved
loop-digit-preserved c =
    let fits : FitsSigned w32 c.in_ok-value.value = search rules in
    rw (to_z-of_z w32 c.in_ok-value.value fits)
    (next-ok c.args.digits.now c.loop-digit.digit-index 0 _ _ (omega arith) c.loop-digit.invariant (sym c.in_ok-value.ensures))
