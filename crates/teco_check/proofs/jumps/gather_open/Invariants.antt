use Rattle.std.proofs.Common.{◌≡◌}
use Rattle.teco_check.proofs.jumps.gather_open.Given as goal

abbrev pub invariant-loop-below : goal.invariant-loop-below
invariant-loop-below l = l.tags ≡ l.fn.tags
