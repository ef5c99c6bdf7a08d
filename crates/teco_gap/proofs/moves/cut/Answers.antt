use Rattle.std.proofs.Common.{arith}
use Rattle.std.proofs.lemmas.Grind.{common_steps}
use Rattle.teco_gap.proofs.Around.{grown_after}
use Rattle.teco_gap.proofs.moves.cut.Goals as goal

pub returns-then-gap-at-clause-end : goal.returns-then-gap-at-clause-end
returns-then-gap-at-clause-end c = grind (arith, common_steps)

pub returns-then-gap-at-clause-before : goal.returns-then-gap-at-clause-before
returns-then-gap-at-clause-before c = grind (arith, common_steps)

pub returns-clause-end : goal.returns-clause-end
returns-clause-end c = grind (arith, common_steps)

pub returns-clause-before : goal.returns-clause-before
returns-clause-before c = grind (arith, common_steps)

pub returns-then-gap-at-clause-after : goal.returns-then-gap-at-clause-after
returns-then-gap-at-clause-after c = grind (arith, grown_after)

pub returns-clause-after : goal.returns-clause-after
returns-clause-after c = grind (arith, grown_after)
