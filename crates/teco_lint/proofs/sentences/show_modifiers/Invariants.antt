use Rattle.std.proofs.Common.{◌≤◌}
use Rattle.teco_lint.proofs.sentences.show_modifiers.Given as goal

abbrev pub invariant-loop-byte : goal.invariant-loop-byte
invariant-loop-byte l = l.ats ≤ l.byte-index
