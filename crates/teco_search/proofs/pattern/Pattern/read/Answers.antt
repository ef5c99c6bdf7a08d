use Rattle.std.proofs.Common.{arith}
use Rattle.std.proofs.lemmas.Grind.{common_steps}
use Rattle.teco_search.proofs.pattern.Pattern.read.Goals as goal

pub returns-in-Some-clause-elements : goal.returns-in-Some-clause-elements
returns-in-Some-clause-elements c = grind (arith, common_steps)

pub returns-clause-elements : goal.returns-clause-elements
returns-clause-elements c = grind (arith, common_steps)

pub invariant_of-result : goal.invariant_of-result
invariant_of-result c = grind (arith, common_steps)

pub invariant_of-result-2 : goal.invariant_of-result-2
invariant_of-result-2 c = grind (arith, common_steps)
