use Rattle.std.proofs.Common.{◌≡◌, ◌≤◌}
use Rattle.teco_check.specs.Checked.{lands_below}
use Rattle.teco_check.proofs.jumps.lands_below.Given as goal

abbrev pub invariant-loop-below : goal.invariant-loop-below
invariant-loop-below l = record {
  few : l.below ≤ l.count;
  same : lands_below l.tags.profile l.tags.bytes.now l.starts l.below l.name ≡ lands_below l.tags.profile l.tags.bytes.now l.starts l.count l.name;
}

-- proposed from the loop's first test
abbrev pub decreases-loop-below : goal.decreases-loop-below
decreases-loop-below l = l.below
