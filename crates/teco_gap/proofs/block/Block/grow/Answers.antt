use Rattle.std.proofs.Common.{arith}
use Rattle.std.proofs.lemmas.Grind.{common_steps}
use Rattle.teco_gap.proofs.block.Block.grow.Goals as goal

pub returns-then-not-grow-clause-bytes : goal.returns-then-not-grow-clause-bytes
returns-then-not-grow-clause-bytes c = grind (arith, common_steps)
