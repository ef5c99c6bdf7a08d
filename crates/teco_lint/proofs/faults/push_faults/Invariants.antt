use Rattle.std.proofs.Common.{◌≡◌, ◌-◌, ◌||◌, Bool, Some, true, false, length}
use Rattle.std.specs.List.{list_any}
use Rattle.std.specs.Prelude.{vec_len}
use Rattle.teco_scan.specs.Seen.{IsSpanIn}
use Rattle.teco_check.specs.Walk.{first_of}
use Rattle.teco_lint.specs.Faults.{has_fault, has_fault_among, passed}
use Rattle.teco_lint.specs.Told.{ends_run, is_fault, is_in_text, moved, own_fault, tells_fault}
use Rattle.teco_lint.specs.declared.faults.TheConstants.{MOST_FAULTS}
use Rattle.teco_lint.specs.declared.remarks.Remark.{Remark}
use Rattle.teco_lint.proofs.faults.push_faults.Given as goal

-- The first fault is among those that were told. The string has a fault if one was told, or the text does that is read on with.
abbrev pub invariant-faults : goal.invariant-faults
invariant-faults l = record {
  own : (test : Remark → Bool) → is_in_text l.fn.first.wrong ≡ false → test (moved (own_fault (length l.string) l.fn.first) l.from) ≡ true
      → list_any test l.faults.items ≡ true;
  some : list_any is_fault l.faults.items ≡ true;
  told : l.found ≡ true → list_any tells_fault l.faults.items ≡ true;
  inside : IsSpanIn (vec_len l.text) l.fault.inside;
  last : ends_run l.fault.wrong ≡ true → l.found ≡ true;
  found : Some l.fn.first ≡ first_of l.profile l.code l.string
      → has_fault l.profile l.code l.string ≡ (l.found || has_fault_among (MOST_FAULTS - l._told) l.profile l.code (passed l.profile l.text.items l.fault));
}
