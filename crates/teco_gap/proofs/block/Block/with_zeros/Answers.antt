use Rattle.std.proofs.Common.{arith}
use Rattle.std.proofs.lemmas.Grind.{common_steps}
use Rattle.teco_gap.proofs.block.Block.with_zeros.Goals as goal

pub put-requires : goal.put-requires
put-requires c = grind (arith, common_steps)

pub loop-written-preserved : goal.loop-written-preserved
loop-written-preserved c = grind (arith, common_steps)

pub invariant_of-result : goal.invariant_of-result
invariant_of-result c = grind (arith, common_steps)

pub returns-clause-bytes : goal.returns-clause-bytes
returns-clause-bytes c = grind (arith, common_steps)

pub returns-clause-cap : goal.returns-clause-cap
returns-clause-cap c = grind (arith, common_steps)
