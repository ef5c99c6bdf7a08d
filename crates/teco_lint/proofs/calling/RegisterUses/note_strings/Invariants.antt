use Rattle.std.proofs.Common.{◌≤◌, ◌-◌, Bool, List, length, drop}
use Rattle.teco_lint.specs.Strings.{strings_of}
use Rattle.teco_lint.proofs.Noted.{OfStrings}
use Rattle.teco_lint.proofs.calling.RegisterUses.note_strings.Given as goal

-- if the strings that are left are noted, all are
abbrev pub invariant-loop-end : goal.invariant-loop-end
invariant-loop-end l = record {
  inside : l.start ≤ length l.commands;
  rest : (later : List Bool) → OfStrings l.profile (strings_of (drop l.start l.commands)) l.self.called later
      → OfStrings l.profile (strings_of l.commands) l.fn.self.called later;
}

abbrev pub decreases-loop-end : goal.decreases-loop-end
decreases-loop-end l = length l.commands - l.start
