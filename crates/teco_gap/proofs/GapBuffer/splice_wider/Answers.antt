use Rattle.std.proofs.Common.{arith}
use Rattle.std.proofs.lemmas.Grind.{common_steps}
use Rattle.teco_gap.proofs.GapBuffer.splice_wider.Goals as goal

pub returns-in-Some-clause-before : goal.returns-in-Some-clause-before
returns-in-Some-clause-before c = grind (arith, common_steps)

pub returns-in-Some-clause-after : goal.returns-in-Some-clause-after
returns-in-Some-clause-after c = grind (arith, common_steps)

pub returns-in_default-clause-before : goal.returns-in_default-clause-before
returns-in_default-clause-before c = grind (arith, common_steps)

pub returns-in_default-clause-after : goal.returns-in_default-clause-after
returns-in_default-clause-after c = grind (arith, common_steps)

pub invariant_of-self : goal.invariant_of-self
invariant_of-self c = grind (arith, common_steps)

pub overflow_sub-self-inside : goal.overflow_sub-self-inside
overflow_sub-self-inside c = grind (arith, common_steps)

pub overflow_add-self-inside : goal.overflow_add-self-inside
overflow_add-self-inside c = grind (arith, common_steps)

pub widened-block-requires-clause-gap : goal.widened-block-requires-clause-gap
widened-block-requires-clause-gap c = grind (arith, common_steps)

pub widened-block-requires-clause-fits : goal.widened-block-requires-clause-fits
widened-block-requires-clause-fits c = grind (arith, common_steps)

pub splice-requires-clause-gap : goal.splice-requires-clause-gap
splice-requires-clause-gap c = grind (arith, common_steps)

pub splice-requires-clause-inside : goal.splice-requires-clause-inside
splice-requires-clause-inside c = grind (arith, common_steps)

pub splice-requires-clause-fits : goal.splice-requires-clause-fits
splice-requires-clause-fits c = grind (arith, common_steps)

pub invariant_of-self-in-Some-2 : goal.invariant_of-self-in-Some-2
invariant_of-self-in-Some-2 c = grind (arith, common_steps)

pub invariant_of-self-in_default : goal.invariant_of-self-in_default
invariant_of-self-in_default c = grind (arith, common_steps)

pub returns-in-Some-clause-cap : goal.returns-in-Some-clause-cap
returns-in-Some-clause-cap c = grind (arith, common_steps)

pub returns-in_default-clause-cap : goal.returns-in_default-clause-cap
returns-in_default-clause-cap c = grind (arith, common_steps)
