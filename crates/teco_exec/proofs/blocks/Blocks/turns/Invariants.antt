use Rattle.std.proofs.Common.{◌≡◌, ◌≤◌, ◌++◌, reverse, take}
use Rattle.teco_exec.specs.Frames.{turns_open}
use Rattle.teco_exec.proofs.blocks.Blocks.turns.Given as goal

-- The turns so far, and then those of the blocks that are not looked at yet.
abbrev pub invariant-outward : goal.invariant-outward
invariant-outward l = record {
  few : l.depth ≤ 64;
  same : l.turns.items ++ turns_open (reverse (take l.depth l.self-inside.open.now)) ≡ turns_open l.self;
}

abbrev pub decreases-outward : goal.decreases-outward
decreases-outward l = l.depth
