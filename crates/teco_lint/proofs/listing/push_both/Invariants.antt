use Rattle.std.proofs.Common.{◌≡◌, Bool, true, take}
use Rattle.std.specs.List.{list_any}
use Rattle.teco_lint.specs.declared.remarks.Remark.{Remark}
use Rattle.teco_lint.specs.Told.{IsTold}
use Rattle.teco_lint.proofs.listing.push_both.Given as goal

-- what was told before is told, and so are the faults so far
abbrev pub invariant-loop-fault : goal.invariant-loop-fault
invariant-loop-fault l = record {
  kept : (test : Remark → Bool) → IsTold test l.fn.remarks.items → IsTold test l.remarks.items;
  told : (test : Remark → Bool) → list_any test (take l.fault-index l.faults) ≡ true → IsTold test l.remarks.items;
}
