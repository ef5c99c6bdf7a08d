use Rattle.std.proofs.Common.{Bool, length, ◌-◌}
use Rattle.teco_lint.specs.declared.remarks.Remark.{Remark}
use Rattle.teco_lint.specs.Told.{IsTold}
use Rattle.teco_lint.proofs.listing.push_before.Given as goal

-- what was told before is told
abbrev pub invariant-loop-next : goal.invariant-loop-next
invariant-loop-next l = (test : Remark → Bool) → IsTold test l.fn.remarks.items → IsTold test l.remarks.items

abbrev pub decreases-loop-next : goal.decreases-loop-next
decreases-loop-next l = length l.hints - l.next
