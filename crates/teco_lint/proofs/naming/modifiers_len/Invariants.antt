use Rattle.std.proofs.Common.{length, ◌-◌, ◌≤◌}
use Rattle.teco_lint.proofs.naming.modifiers_len.Given as goal

abbrev pub invariant-loop-len : goal.invariant-loop-len
invariant-loop-len l = l.len ≤ length l.bytes

abbrev pub decreases-loop-len : goal.decreases-loop-len
decreases-loop-len l = length l.bytes - l.len
