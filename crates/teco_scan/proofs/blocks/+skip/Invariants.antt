use Rattle.std.proofs.Common.{◌≡◌, ◌+◌, ◌≤◌, Some, length, drop, ◌-◌, ◌*◌}
use Rattle.teco_scan.specs.Lists.{list_at}
use Rattle.teco_scan.proofs.blocks.+skip.Given as goal

abbrev pub decreases-skip_block : goal.decreases-skip_block
decreases-skip_block l = 3 * (length l.text.now - l.at)

abbrev pub decreases-skip_node : goal.decreases-skip_node
decreases-skip_node l = 3 * (length l.text.now - l.token.span.to) + 2

abbrev pub decreases-skip_whole_block : goal.decreases-skip_whole_block
decreases-skip_whole_block l = 3 * (length l.text.now - l.at) + 1

-- the list closes as from its beginning
abbrev pub invariant-skip_block-loop-code : goal.invariant-skip_block-loop-code
invariant-skip_block-loop-code l = record {
  past : l.fn.at ≤ l.next;
  inside : l.next ≤ length l.text;
  closes : (list_at l.profile (Some l.kind) l.depth (drop l.next l.text)).1 ≡ (list_at l.profile (Some l.kind) l.depth (drop l.fn.at l.text)).1;
}

abbrev pub decreases-skip_block-loop-code : goal.decreases-skip_block-loop-code
decreases-skip_block-loop-code l = length l.text - l.next
