use Rattle.std.proofs.Common.{◌≤◌}
use Rattle.teco_debugger.specs.Walk.{SameString}
use Rattle.teco_debugger.specs.Watching.{AreAsHere}
use Rattle.teco_debugger.proofs.watching.last_other.Given as goal

abbrev pub invariant-loop-left : goal.invariant-loop-left
invariant-loop-left l = record {
  string : SameString l.walk l.other;
  within : l.left ≤ l.walk.steps;
  passed : AreAsHere l.watch l.walk l.left l.walk.steps;
}

abbrev pub decreases-loop-left : goal.decreases-loop-left
decreases-loop-left l = l.left
