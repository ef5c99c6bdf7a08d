use Rattle.std.proofs.Common.{◌≤◌, ◌-◌, ◌++◌, List, length}
use Rattle.tecol_driver.specs.declared.synonyms.Change.{Change}
use Rattle.tecol_driver.specs.Synonyms.{AreChanges}
use Rattle.tecol_driver.proofs.synonyms.changes_in.Given as goal

-- with the changes of what is left, those so far are all
abbrev pub invariant-loop-long : goal.invariant-loop-long
invariant-loop-long l = record {
  within : l.start ≤ length l.commands;
  all : (later : List Change) → AreChanges l.commands l.start later → AreChanges l.commands 0 (l.changes.items ++ later);
}

abbrev pub decreases-loop-long : goal.decreases-loop-long
decreases-loop-long l = length l.commands - l.start
