use Rattle.std.proofs.Common.{◌+◌}
use Rattle.teco_tests.specs.Steps.{HasDone}
use Rattle.teco_tests.proofs.tests.undo.late.are_made.Given as goal

abbrev pub invariant-loop-call : goal.invariant-loop-call
invariant-loop-call l = HasDone (l.fn.start + l.fn.from) 0 l.fn.recorder → HasDone (l.fn.start + l.call) 0 l.recorder
