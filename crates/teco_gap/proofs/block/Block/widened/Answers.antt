use Rattle.std.proofs.Common.{arith}
use Rattle.std.proofs.lemmas.Grind.{common_steps}
use Rattle.teco_gap.proofs.block.Block.widened.Goals as goal

pub returns-clause-wider : goal.returns-clause-wider
returns-clause-wider c = grind (arith, common_steps)

pub returns-clause-same : goal.returns-clause-same
returns-clause-same c = grind (arith, common_steps)

pub with_zeros-block-requires : goal.with_zeros-block-requires
with_zeros-block-requires c = grind (arith, common_steps)
