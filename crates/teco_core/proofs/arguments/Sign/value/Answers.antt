use Rattle.std.proofs.Common.{arith}
use Rattle.std.proofs.lemmas.Grind.{common_steps}
use Rattle.teco_core.proofs.arguments.Sign.value.Goals as goal

pub returns-in-Negative : goal.returns-in-Negative
returns-in-Negative c = grind (arith, common_steps)
