use Rattle.std.proofs.Common.{arith}
use Rattle.std.proofs.lemmas.Grind.{common_steps}
use Rattle.teco_exec.proofs.remembered.Remembered.skip_anew.Goals as goal

pub invariant_of-self : goal.invariant_of-self
invariant_of-self c = grind (arith, common_steps)

pub same-self : goal.same-self
same-self c = grind (arith, common_steps)
