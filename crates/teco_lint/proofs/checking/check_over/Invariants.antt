use Rattle.std.proofs.Common.{◌≡◌, ◌≤◌, ◌-◌, ◌||◌, Bool, true, false, List, length, drop}
use Rattle.std.specs.List.{AllByRecursion, list_any}
use Rattle.teco_lint.specs.declared.remarks.Remark.{Remark}
use Rattle.teco_lint.specs.Faults.{is_faulty, is_faulty_string}
use Rattle.teco_lint.specs.Right.{IsRightString}
use Rattle.teco_lint.specs.Strings.{AreTold, is_unclean, is_unclean_string, strings_of}
use Rattle.teco_lint.specs.Told.{IsTold, tells_fault}
use Rattle.teco_lint.proofs.checking.check_over.Given as goal

-- If the remarks that come tell of the strings that are left, and keep what was told, they tell of all.
abbrev pub invariant-loop-end : goal.invariant-loop-end
invariant-loop-end l = record {
  inside : l.start ≤ length l.commands;
  faulty : is_faulty l.profile l.uses.called l.commands
      ≡ (l.is_faulty || list_any (is_faulty_string l.profile l.uses.called) (strings_of (drop l.start l.commands)));
  unclean : is_unclean l.profile l.uses.called l.commands
      ≡ (l.is_unclean || list_any (is_unclean_string l.profile l.uses.called) (strings_of (drop l.start l.commands)));
  right : l.is_unclean ≡ false → AllByRecursion (IsRightString l.profile l.uses.called) (strings_of (drop l.start l.commands))
      → AllByRecursion (IsRightString l.profile l.uses.called) (strings_of l.commands);
  told : (later : List Remark) → ((test : Remark → Bool) → IsTold test l.remarks.items → IsTold test later)
      → AreTold l.profile l.uses.called later l.start (strings_of (drop l.start l.commands)) → AreTold l.profile l.uses.called later 0 (strings_of l.commands);
  tells : l.is_faulty ≡ true → IsTold tells_fault l.remarks.items;
}

abbrev pub decreases-loop-end : goal.decreases-loop-end
decreases-loop-end l = length l.commands - l.start
