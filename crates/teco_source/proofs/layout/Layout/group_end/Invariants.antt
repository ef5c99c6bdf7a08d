use Rattle.std.proofs.Common.{◌≤◌, ◌-◌, length}
use Rattle.teco_source.proofs.layout.Layout.group_end.Given as goal

abbrev pub invariant-loop-to : goal.invariant-loop-to
invariant-loop-to l = (l.at ≤ l.to) × (l.to ≤ length l.text)

abbrev pub decreases-loop-to : goal.decreases-loop-to
decreases-loop-to l = length l.text - l.to
