use Rattle.std.proofs.Common.{arith}
use Rattle.std.proofs.lemmas.Grind.{common_steps}
use Rattle.teco_step.proofs.taking.range_between.Goals as goal

pub returns-in_err-one-clause-value : goal.returns-in_err-one-clause-value
returns-in_err-one-clause-value g c = grind (arith, common_steps)

pub returns-in_err-one-clause-ordered : goal.returns-in_err-one-clause-ordered
returns-in_err-one-clause-ordered g c = grind (arith, common_steps)

pub returns-in_err-one-clause-within : goal.returns-in_err-one-clause-within
returns-in_err-one-clause-within g c = grind (arith, common_steps)

pub returns-in_err-other-clause-value : goal.returns-in_err-other-clause-value
returns-in_err-other-clause-value g c = grind (arith, common_steps)

pub returns-in_err-other-clause-ordered : goal.returns-in_err-other-clause-ordered
returns-in_err-other-clause-ordered g c = grind (arith, common_steps)

pub returns-in_err-other-clause-within : goal.returns-in_err-other-clause-within
returns-in_err-other-clause-within g c = grind (arith, common_steps)

pub returns-clause-value : goal.returns-clause-value
returns-clause-value g c = grind (arith, common_steps)

pub returns-clause-ordered : goal.returns-clause-ordered
returns-clause-ordered g c = grind (arith, common_steps)

pub returns-clause-within : goal.returns-clause-within
returns-clause-within g c = grind (arith, common_steps)
