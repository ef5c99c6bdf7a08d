use Rattle.std.proofs.Common.{arith}
use Rattle.std.proofs.lemmas.Grind.{common_steps}
use Rattle.teco_gap.proofs.GapBuffer.splice_anywhere.Goals as goal

pub returns-in-Some-clause-before : goal.returns-in-Some-clause-before
returns-in-Some-clause-before c = grind (arith, common_steps)

pub returns-in-Some-clause-after : goal.returns-in-Some-clause-after
returns-in-Some-clause-after c = grind (arith, common_steps)

pub returns-else-ins-self-clause-before : goal.returns-else-ins-self-clause-before
returns-else-ins-self-clause-before c = grind (arith, common_steps)

pub returns-else-ins-self-clause-after : goal.returns-else-ins-self-clause-after
returns-else-ins-self-clause-after c = grind (arith, common_steps)

pub invariant_of-self : goal.invariant_of-self
invariant_of-self c = grind (arith, common_steps)
