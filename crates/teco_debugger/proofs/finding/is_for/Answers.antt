use Rattle.std.proofs.Common.{arith}
use Rattle.std.proofs.lemmas.Grind.{common_steps}
use Rattle.teco_debugger.proofs.finding.is_for.Goals as goal

pub returns-in-Buffer-Splice : goal.returns-in-Buffer-Splice
returns-in-Buffer-Splice c = grind (arith, common_steps)

pub returns-in-Register-Number : goal.returns-in-Register-Number
returns-in-Register-Number c = grind (arith, common_steps)

pub returns-in_default : goal.returns-in_default
returns-in_default c = grind (arith, common_steps)

pub returns-in_default-2 : goal.returns-in_default-2
returns-in_default-2 c = grind (arith, common_steps)
