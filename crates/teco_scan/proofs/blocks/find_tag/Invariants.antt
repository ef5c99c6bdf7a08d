use Rattle.std.proofs.Common.{◌≡◌, ◌≤◌, length, drop, ◌-◌}
use Rattle.teco_scan.specs.Lists.{tag_at}
use Rattle.teco_scan.proofs.blocks.find_tag.Given as goal

-- no such tag so far
abbrev pub invariant-loop-token : goal.invariant-loop-token
invariant-loop-token l = record {
  past : l.fn.block_start ≤ l.next;
  inside : l.next ≤ length l.text;
  finds : tag_at l.profile l.name l.depth (drop l.next l.text) ≡ tag_at l.profile l.name l.depth (drop l.fn.block_start l.text);
}

abbrev pub decreases-loop-token : goal.decreases-loop-token
decreases-loop-token l = length l.text - l.next
