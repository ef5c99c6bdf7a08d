use Rattle.std.proofs.Common.{rules}
use Rattle.teco_c.proofs.state.teco_pointer.Goals as goal

pub returns-clause-same : goal.returns-clause-same
returns-clause-same c = search rules
