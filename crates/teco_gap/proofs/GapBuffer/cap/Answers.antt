use Rattle.std.proofs.Common.{arith}
use Rattle.std.proofs.lemmas.Grind.{common_steps}
use Rattle.teco_gap.proofs.GapBuffer.cap.Goals as goal

pub returns-in-Some-clause-cap : goal.returns-in-Some-clause-cap
returns-in-Some-clause-cap c = grind (arith, common_steps)

pub returns-in-Some-clause-within : goal.returns-in-Some-clause-within
returns-in-Some-clause-within c = grind (arith, common_steps)

pub returns-in-None-clause-cap : goal.returns-in-None-clause-cap
returns-in-None-clause-cap c = grind (arith, common_steps)

pub returns-in-None-clause-within : goal.returns-in-None-clause-within
returns-in-None-clause-within c = grind (arith, common_steps)
