use Rattle.std.proofs.Common.{length, ◌-◌}
use Rattle.teco_lint.proofs.hinting.push_hints.Given as goal

abbrev pub decreases-loop-at : goal.decreases-loop-at
decreases-loop-at l = length l.text - l.at
