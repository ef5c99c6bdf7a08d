use Rattle.std.proofs.Common.{arith}
use Rattle.std.proofs.lemmas.Grind.{common_steps, elements}
use Rattle.teco_search.proofs.joined.Joined.get.Goals as goal

pub returns-then-at-self-clause-value : goal.returns-then-at-self-clause-value
returns-then-at-self-clause-value c = grind (arith, elements)

pub returns-else-at-self-clause-value : goal.returns-else-at-self-clause-value
returns-else-at-self-clause-value c = grind (arith, elements)

pub returns-then-at-self-clause-within : goal.returns-then-at-self-clause-within
returns-then-at-self-clause-within c = grind (arith, common_steps)

pub returns-else-at-self-clause-within : goal.returns-else-at-self-clause-within
returns-else-at-self-clause-within c = grind (arith, common_steps)
