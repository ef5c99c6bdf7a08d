use Rattle.std.proofs.Common.{◌≡◌, ◌≤◌, ◌+◌, ◌++◌, length}
use Rattle.tecol_driver.specs.Diffs.{hunks, lines_of}
use Rattle.tecol_driver.proofs.diffing.hunks_of.Given as goal

-- what is said of the lines so far, and how many there can be
abbrev pub invariant-loop-old_rest : goal.invariant-loop-old_rest
invariant-loop-old_rest l = record {
  so_far : hunks 1 (lines_of l.old) (lines_of l.new) ≡ l.out.items ++ hunks l.number (lines_of l.old_rest) (lines_of l.new_rest);
  few : l.number + length l.old_rest ≤ length l.old + 1;
}

abbrev pub decreases-loop-old_rest : goal.decreases-loop-old_rest
decreases-loop-old_rest l = length l.old_rest
