use Rattle.std.proofs.Common.{◌≡◌, ◌≤◌, reverse, take}
use Rattle.teco_exec.specs.Frames.{has_iteration}
use Rattle.teco_exec.proofs.blocks.Blocks.has_iteration.Given as goal

-- No block that was looked at is an iteration.
abbrev pub invariant-loop-depth : goal.invariant-loop-depth
invariant-loop-depth l = record {
  few : l.depth ≤ 64;
  same : has_iteration (reverse (take l.depth l.self-inside.open.now)) ≡ has_iteration l.self;
}

abbrev pub decreases-loop-depth : goal.decreases-loop-depth
decreases-loop-depth l = l.depth
