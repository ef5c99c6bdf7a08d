use Rattle.std.proofs.Common.{length, ◌≤◌}
use Rattle.teco_lint.proofs.left_out.written_len.Given as goal

abbrev pub invariant-loop-rest : goal.invariant-loop-rest
invariant-loop-rest l = l.to ≤ length l.bytes

abbrev pub decreases-loop-rest : goal.decreases-loop-rest
decreases-loop-rest l = length l.rest
