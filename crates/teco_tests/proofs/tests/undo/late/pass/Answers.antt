use Rattle.std.proofs.Common.{refl}
use Rattle.teco_tests.proofs.Stepping.{few_more}
use Rattle.teco_tests.proofs.tests.undo.late.pass.Goals as goal

pub loop-step-preserved : goal.loop-step-preserved
loop-step-preserved c = λ begun.
    c.end_step.ensures c.loop-step.step refl (few_more c.loop-step.recorder c.loop-step.step (c.loop-step.invariant begun))
