use Rattle.teco_step.proofs.Acting.{refusal_then, takes_refused}
use Rattle.teco_step.proofs.page_searching.wanted.Goals as goal

pub returns-in_err-n-clause-value : goal.returns-in_err-n-clause-value
returns-in_err-n-clause-value c = takes_refused _ _ _ c.from_residual.result c.from_residual.ensures.1 (refusal_then _ _ _ c.in_err-n.ensures)
