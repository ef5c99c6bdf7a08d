use Rattle.std.proofs.Common.{arith}
use Rattle.std.proofs.lemmas.Grind.{common_steps}
use Rattle.teco_exec.proofs.flow.Exit.code.Goals as goal

pub returns-in-Return : goal.returns-in-Return
returns-in-Return c = grind (arith, common_steps)
