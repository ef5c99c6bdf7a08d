use Rattle.std.proofs.Common.{ap, ◌∙◌}
use Rattle.std.proofs.lemmas.Result.{err_from_is_err_and}
use Rattle.teco_scan.specs.FirstRow.{with_operand}
use Rattle.teco_scan.proofs.FirstRow.{ordered}
use Rattle.teco_scan.proofs.scan.command_from.Goals as goal

pub returns-in_err-modifiers-clause-read : goal.returns-in_err-modifiers-clause-read
returns-in_err-modifiers-clause-read c =
    let p = err_from_is_err_and c.from_residual.result c.from_residual.ensures.1 in
    rw (p.1, p.2) (ap with_operand c.in_err-modifiers.ensures.read)

pub returns-in_err-kind-clause-read : goal.returns-in_err-kind-clause-read
returns-in_err-kind-clause-read c =
    let p = err_from_is_err_and c.from_residual-in_err-kind.result c.from_residual-in_err-kind.ensures.1 in
    rw (p.1, p.2) (ap with_operand c.in_ok-modifiers.ensures.read ∙ ap (ordered c.in_ok-modifiers.modifiers) c.in_err-kind.ensures.read)

pub returns-clause-read : goal.returns-clause-read
returns-clause-read c = ap with_operand c.in_ok-modifiers.ensures.read ∙ ap (ordered c.in_ok-modifiers.modifiers) c.in_ok-kind.ensures.read

pub returns-clause-placed : goal.returns-clause-placed
returns-clause-placed c = c.in_ok-kind.ensures.placed c.args.at
