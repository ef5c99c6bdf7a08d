use Rattle.std.proofs.Common.{arith}
use Rattle.std.proofs.lemmas.Grind.{common_steps}
use Rattle.teco_source.proofs.reader.Reader.plain.Goals as goal

pub returns-in-10 : goal.returns-in-10
returns-in-10 c = grind (arith, common_steps)

pub returns-in-94 : goal.returns-in-94
returns-in-94 c = grind (arith, common_steps)

pub returns-in-33 : goal.returns-in-33
returns-in-33 c = grind (arith, common_steps)

pub returns-in-32 : goal.returns-in-32
returns-in-32 c = grind (arith, common_steps)

pub returns-in-36 : goal.returns-in-36
returns-in-36 c = grind (arith, common_steps)

pub returns-in_default : goal.returns-in_default
returns-in_default c = grind (arith, common_steps)
