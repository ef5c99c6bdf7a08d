use Rattle.std.proofs.Common.{rules}
use Rattle.std.proofs.lemmas.Result.{err_from_is_err_and}
use Rattle.teco_core.specs.ArgumentsView.{arguments}
use Rattle.teco_exec.proofs.Refused.{taking_is_finished}
use Rattle.teco_exec.proofs.cursor.Cursor.iterate.Goals as goal

pub returns-in_err-take-clause-finished : goal.returns-in_err-take-clause-finished
returns-in_err-take-clause-finished c =
    let p = err_from_is_err_and c.from_residual.result c.from_residual.ensures.1 in
    rw (p.1, p.2) (taking_is_finished (arguments c.args.self.now.args) c.in_err-take.field-0.0 c.in_err-take.ensures.value)

pub returns-then-n-gt0-clause-moves : goal.returns-then-n-gt0-clause-moves
returns-then-n-gt0-clause-moves c = search rules
