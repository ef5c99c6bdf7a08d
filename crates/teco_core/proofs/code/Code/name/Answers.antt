use Rattle.std.proofs.Common.{arith}
use Rattle.std.proofs.lemmas.Grind.{common_steps}
use Rattle.teco_core.proofs.code.Code.name.Goals as goal

pub returns-text : goal.returns-text
returns-text c = grind (arith, common_steps)

pub returns-clause-letters : goal.returns-clause-letters
returns-clause-letters c = grind (arith, common_steps)

pub bounds-self : goal.bounds-self
bounds-self c = grind (arith, common_steps)

pub returns-clause-three : goal.returns-clause-three
returns-clause-three c = grind (arith, common_steps)
