use Rattle.teco_step.proofs.Acting.{why_then, passes}
use Rattle.teco_step.proofs.searching.matched.Goals as goal

pub returns-in_err-pattern-clause-err : goal.returns-in_err-pattern-clause-err
returns-in_err-pattern-clause-err g c =
    passes _ _ c.from_residual.result c.from_residual.ensures.1 (why_then _ _ _ c.in_err-pattern.ensures.err)
