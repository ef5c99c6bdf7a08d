use Rattle.std.proofs.Common.{arith}
use Rattle.std.proofs.lemmas.Grind.{common_steps}
use Rattle.teco_gap.proofs.GapBuffer.get.Goals as goal

pub bounds-before-i : goal.bounds-before-i
bounds-before-i c = grind (arith, common_steps)

pub overflow_sub-result : goal.overflow_sub-result
overflow_sub-result c = grind (arith, common_steps)

pub bounds-after-i : goal.bounds-after-i
bounds-after-i c = grind (arith, common_steps)

pub returns-then-i-before : goal.returns-then-i-before
returns-then-i-before c = grind (arith, common_steps)

pub returns-else-i-before : goal.returns-else-i-before
returns-else-i-before c = grind (arith, common_steps)
