use Rattle.std.proofs.Common.{◌≡◌, ◌+◌, ◌-◌, ◌≤◌, ◌*◌, List, length, drop, set}
use Rattle.teco_scan.specs.Tree.{Nodes}
use Rattle.teco_scan.specs.Lists.{list_at}
use Rattle.teco_check.specs.Clean.{is_clean}
use Rattle.teco_check.specs.Checked.{item_length, held, may_hold, AreOpen}
use Rattle.teco_scan.specs.Walk.{OpenList}
use Rattle.teco_check.specs.Walk.{rule, check_walk}
use Rattle.teco_check.specs.Walked.{BeginThere}
use Rattle.teco_check.proofs.faults.+check.Given as goal

-- a text, a list, a node and an item are above what they have in them
abbrev pub decreases-check_conditional : goal.decreases-check_conditional
decreases-check_conditional l = 8 * (length l.text.now - l.at) + 2

abbrev pub decreases-check_list : goal.decreases-check_list
decreases-check_list l = 8 * (length l.text.now - l.at) + 1

abbrev pub decreases-check_node : goal.decreases-check_node
decreases-check_node l = 8 * (length l.text.now - l.token.span.from)

abbrev pub decreases-check_item : goal.decreases-check_item
decreases-check_item l = 8 * item_length l.item + 5

abbrev pub decreases-wrong_of : goal.decreases-wrong_of
decreases-wrong_of l = 8 * item_length l.item + 4

abbrev pub decreases-check_text : goal.decreases-check_text
decreases-check_text l = 8 * length l.text.now + 3

abbrev pub decreases-check_gathered : goal.decreases-check_gathered
decreases-check_gathered l = 8 * length l.text.now + 2

-- the rest of the list is as clean as the whole list, and closes as it does
abbrev pub invariant-check_list-loop-code : goal.invariant-check_list-loop-code
invariant-check_list-loop-code l = record {
  past : l.fn.at ≤ l.next;
  inside : l.next ≤ length l.text;
  starts : l.starts ≡ set l.fn.around l.fn.depth l.fn.at;
  clean : (lists : List Nodes) → AreOpen l.look.profile l.text l.starts (l.depth + 1) lists
      → is_clean (held l.look.code.now) (may_hold l.look.profile l.look.texts l.look.code.now) lists (list_at l.look.profile l.kind l.depth (drop l.next l.text)).0 ≡ is_clean (held l.look.code.now) (may_hold l.look.profile l.look.texts l.look.code.now) lists (list_at l.look.profile l.kind l.depth (drop l.fn.at l.text)).0;
  first : (os : List OpenList) → length os ≡ l.depth → BeginThere l.look.profile l.text l.fn.around os
      → check_walk l.look.profile (rule l.look.profile l.look.texts l.look.code.now) l.text (record { kind = l.kind; opening = l.opening; start = l.fn.at }) os (drop l.next l.text)
      ≡ check_walk l.look.profile (rule l.look.profile l.look.texts l.look.code.now) l.text (record { kind = l.kind; opening = l.opening; start = l.fn.at }) os (drop l.fn.at l.text);
  closes : (list_at l.look.profile l.kind l.depth (drop l.next l.text)).1 ≡ (list_at l.look.profile l.kind l.depth (drop l.fn.at l.text)).1;
}

abbrev pub decreases-check_list-loop-code : goal.decreases-check_list-loop-code
decreases-check_list-loop-code l = length l.text - l.next
