use Rattle.std.proofs.Common.{arith}
use Rattle.std.proofs.lemmas.Grind.{common_steps, elements}
use Rattle.teco_gap.proofs.moves.fill.Goals as goal

pub returns-in_default : goal.returns-in_default
returns-in_default c = grind (arith, common_steps)

pub returns-in-len1 : goal.returns-in-len1
returns-in-len1 c = grind (arith, elements)
