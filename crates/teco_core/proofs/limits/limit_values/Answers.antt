use Rattle.std.proofs.Common.{refl}
use Rattle.teco_core.proofs.limits.limit_values.Goals as goal

pub returns-clause-text : goal.returns-clause-text
returns-clause-text c = refl
