use Rattle.std.proofs.Common.{◌≡◌, ◌≤◌, length, drop}
use Rattle.teco_debugger.specs.History.{change_steps}
use Rattle.teco_debugger.proofs.history.change_steps.Given as goal

abbrev pub invariant-loop-left : goal.invariant-loop-left
invariant-loop-left l = record {
  within : l.left ≤ length l.changes;
  listed : l.steps.items ≡ change_steps l.part (drop l.left l.changes);
}

abbrev pub decreases-loop-left : goal.decreases-loop-left
decreases-loop-left l = l.left
