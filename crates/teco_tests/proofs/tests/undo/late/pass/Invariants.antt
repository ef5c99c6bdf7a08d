use Rattle.teco_tests.specs.Steps.{HasDone}
use Rattle.teco_tests.proofs.tests.undo.late.pass.Given as goal

abbrev pub invariant-loop-step : goal.invariant-loop-step
invariant-loop-step l = HasDone 0 0 l.fn.recorder → HasDone l.step 0 l.recorder
