use Rattle.std.proofs.Common.{◌≡◌, ◌≤◌, ◌-◌, length, drop}
use Rattle.teco_core.specs.declared.limits.TheConstants.{BLOCK_LIMIT}
use Rattle.teco_scan.specs.declared.breaks.ListFault.{ListFault}
use Rattle.teco_scan.specs.Breaks.{Breaks}
use Rattle.teco_scan.specs.Lists.{list_at}
use Rattle.teco_scan.specs.Nesting.{is_whole}
use Rattle.teco_scan.proofs.breaks.first_fault_from.Given as goal

-- A fault of the list at hand is one of the list that was given, and both are whole or neither is.
abbrev pub invariant-loop-code : goal.invariant-loop-code
invariant-loop-code l = record {
  inside : l.next ≤ length l.text;
  few : l.list.depth ≤ BLOCK_LIMIT;
  comes : (there : ListFault) → Breaks l.profile l.text l.list l.next there → Breaks l.profile l.text l.fn.list l.fn.at there;
  whole : is_whole (list_at l.profile l.list.kind l.list.depth (drop l.next l.text)).0 ≡ is_whole (list_at l.profile l.fn.list.kind l.fn.list.depth (drop l.fn.at l.text)).0;
}

abbrev pub decreases-loop-code : goal.decreases-loop-code
decreases-loop-code l = length l.text - l.next
