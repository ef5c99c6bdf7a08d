use Rattle.std.proofs.Common.{◌≤◌, ◌-◌}
use Rattle.teco_source.proofs.layout.line_end.Given as goal

abbrev pub invariant-loop-end : goal.invariant-loop-end
invariant-loop-end l = (l.at ≤ l.end) × (l.end ≤ l.to)

abbrev pub decreases-loop-end : goal.decreases-loop-end
decreases-loop-end l = l.to - l.end
