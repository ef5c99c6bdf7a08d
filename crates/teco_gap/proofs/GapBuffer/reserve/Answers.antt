use Rattle.std.proofs.Common.{arith}
use Rattle.std.proofs.lemmas.Grind.{common_steps}
use Rattle.teco_gap.proofs.GapBuffer.reserve.Goals as goal

pub returns-in-Some-block-clause-before : goal.returns-in-Some-block-clause-before
returns-in-Some-block-clause-before c = grind (arith, common_steps)

pub returns-in-Some-block-clause-after : goal.returns-in-Some-block-clause-after
returns-in-Some-block-clause-after c = grind (arith, common_steps)

pub returns-in-Some-block-clause-ok : goal.returns-in-Some-block-clause-ok
returns-in-Some-block-clause-ok c = grind (arith, common_steps)

pub returns-in_ok-new-in-None-clause-ok : goal.returns-in_ok-new-in-None-clause-ok
returns-in_ok-new-in-None-clause-ok c = grind (arith, common_steps)

pub invariant_of-self : goal.invariant_of-self
invariant_of-self c = grind (arith, common_steps)

pub returns-then-n-old-clause-before : goal.returns-then-n-old-clause-before
returns-then-n-old-clause-before c = grind (arith, common_steps)

pub returns-then-n-old-clause-after : goal.returns-then-n-old-clause-after
returns-then-n-old-clause-after c = grind (arith, common_steps)

pub returns-then-n-old-clause-ok : goal.returns-then-n-old-clause-ok
returns-then-n-old-clause-ok c = grind (arith, common_steps)

pub returns-then-n-old-clause-doubles : goal.returns-then-n-old-clause-doubles
returns-then-n-old-clause-doubles c = grind (arith, common_steps)

pub returns-then-n-old-clause-within : goal.returns-then-n-old-clause-within
returns-then-n-old-clause-within c = grind (arith, common_steps)

pub returns-then-n-old-clause-err : goal.returns-then-n-old-clause-err
returns-then-n-old-clause-err c = grind (arith, common_steps)

pub returns-in_default-clause-before : goal.returns-in_default-clause-before
returns-in_default-clause-before c = grind (arith, common_steps)

pub returns-in_default-clause-after : goal.returns-in_default-clause-after
returns-in_default-clause-after c = grind (arith, common_steps)

pub returns-in_default-clause-ok : goal.returns-in_default-clause-ok
returns-in_default-clause-ok c = grind (arith, common_steps)

pub returns-in_default-clause-doubles : goal.returns-in_default-clause-doubles
returns-in_default-clause-doubles c = grind (arith, common_steps)

pub returns-in_default-clause-within : goal.returns-in_default-clause-within
returns-in_default-clause-within c = grind (arith, common_steps)

pub returns-in_default-clause-err : goal.returns-in_default-clause-err
returns-in_default-clause-err c = grind (arith, common_steps)

pub returns-in_err-new-in-None-clause-before : goal.returns-in_err-new-in-None-clause-before
returns-in_err-new-in-None-clause-before c = grind (arith, common_steps)

pub returns-in_err-new-in-None-clause-after : goal.returns-in_err-new-in-None-clause-after
returns-in_err-new-in-None-clause-after c = grind (arith, common_steps)

pub returns-in_err-new-in-None-clause-ok : goal.returns-in_err-new-in-None-clause-ok
returns-in_err-new-in-None-clause-ok c = grind (arith, common_steps)

pub returns-in_err-new-in-None-clause-doubles : goal.returns-in_err-new-in-None-clause-doubles
returns-in_err-new-in-None-clause-doubles c = grind (arith, common_steps)

pub returns-in_err-new-in-None-clause-within : goal.returns-in_err-new-in-None-clause-within
returns-in_err-new-in-None-clause-within c = grind (arith, common_steps)

pub returns-in_err-new-in-None-clause-err : goal.returns-in_err-new-in-None-clause-err
returns-in_err-new-in-None-clause-err c = grind (arith, common_steps)

pub returns-in-Some-block-clause-doubles : goal.returns-in-Some-block-clause-doubles
returns-in-Some-block-clause-doubles c = grind (arith, common_steps)

pub returns-in-Some-block-clause-within : goal.returns-in-Some-block-clause-within
returns-in-Some-block-clause-within c = grind (arith, common_steps)

pub returns-in-Some-block-clause-err : goal.returns-in-Some-block-clause-err
returns-in-Some-block-clause-err c = grind (arith, common_steps)

pub returns-in_ok-new-in-None-clause-before : goal.returns-in_ok-new-in-None-clause-before
returns-in_ok-new-in-None-clause-before c = grind (arith, common_steps)

pub returns-in_ok-new-in-None-clause-after : goal.returns-in_ok-new-in-None-clause-after
returns-in_ok-new-in-None-clause-after c = grind (arith, common_steps)

pub returns-in_ok-new-in-None-clause-doubles : goal.returns-in_ok-new-in-None-clause-doubles
returns-in_ok-new-in-None-clause-doubles c = grind (arith, common_steps)

pub returns-in_ok-new-in-None-clause-within : goal.returns-in_ok-new-in-None-clause-within
returns-in_ok-new-in-None-clause-within c = grind (arith, common_steps)

pub returns-in_ok-new-in-None-clause-err : goal.returns-in_ok-new-in-None-clause-err
returns-in_ok-new-in-None-clause-err c = grind (arith, common_steps)
