use Rattle.std.proofs.Common.{FitsSigned, w32, sym, arith, rules}
use Rattle.std.proofs.lemmas.Int.{to_z-of_z}
use Rattle.std.proofs.lemmas.Result.{err_from_is_err_and}
use Rattle.teco_core.specs.ArgumentsView.{arguments}
use Rattle.teco_core.proofs.Levels.{closes-ok, closes-err}
use Rattle.teco_core.proofs.arguments.Args.close.Goals as goal

pub returns-in_err-number-clause-err : goal.returns-in_err-number-clause-err
unfolding arguments
returns-in_err-number-clause-err c =
    let a = c.args.self.now in
    let fits : FitsSigned w32 c.in-Number.value = search rules in
    let p = err_from_is_err_and c.from_residual.result c.from_residual.ensures.1 in
    rw (p.1, p.2)
    (closes-err a.first a.outer a.depth a.expression c.in-Number.value c.in_err-number.field-0.0 c.in-Number.is (omega arith) (omega arith) (rw (to_z-of_z w32 c.in-Number.value fits) at (sym c.in_err-number.ensures)))

pub returns-clause-ok : goal.returns-clause-ok
unfolding arguments
returns-clause-ok c =
    let a = c.args.self.now in
    let fits : FitsSigned w32 c.in-Number.value = search rules in
    let number_fits : FitsSigned w32 c.in_ok-number.number = search rules in
    rw (to_z-of_z w32 c.in_ok-number.number number_fits)
    (closes-ok a.first a.outer a.depth a.expression c.in-Number.value c.in_ok-number.number c.in-Number.is (omega arith) (omega arith) (rw (to_z-of_z w32 c.in-Number.value fits) at (sym c.in_ok-number.ensures)))
