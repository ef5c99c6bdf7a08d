use Rattle.std.proofs.Common.{◌<◌, ◌≤◌}
use Rattle.std.specs.Prelude.{IfSome}
use Rattle.teco_debugger.specs.Walk.{SameString}
use Rattle.teco_debugger.specs.Watching.{IsFirstOther}
use Rattle.teco_debugger.proofs.watching.first_other.Given as goal

abbrev pub invariant-loop-left : goal.invariant-loop-left
invariant-loop-left l = record {
  string : SameString l.walk l.other;
  within : l.left ≤ l.fn.other.steps;
  later : IfSome l.found (λ n. l.walk.steps < n);
  first : IsFirstOther l.watch l.walk l.left l.fn.other.steps l.found;
}

abbrev pub decreases-loop-left : goal.decreases-loop-left
decreases-loop-left l = l.left
