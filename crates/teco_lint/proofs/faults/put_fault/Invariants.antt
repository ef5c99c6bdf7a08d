use Rattle.std.proofs.Common.{◌≤◌}
use Rattle.std.specs.Prelude.{vec_len}
use Rattle.teco_lint.proofs.faults.put_fault.Given as goal

abbrev pub invariant-loop-at : goal.invariant-loop-at
invariant-loop-at l = l.at ≤ vec_len l.faults

abbrev pub decreases-loop-at : goal.decreases-loop-at
decreases-loop-at l = l.at
