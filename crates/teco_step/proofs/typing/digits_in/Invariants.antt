use Rattle.std.proofs.Common.{◌≡◌, ◌≤◌, length, drop, true}
use Rattle.std.specs.Fmt.{digits, digits_onto}
use Rattle.teco_step.proofs.typing.digits_in.Given as goal

-- With what is left before the digits that are written, they are those of the number.
abbrev pub invariant-loop-start : goal.invariant-loop-start
invariant-loop-start l = record {
  within : l.start ≤ 64;
  long : length l.bytes ≡ 64;
  same : digits_onto l.start l.base true l.left (drop l.start l.bytes) ≡ digits l.base true l.n;
}

abbrev pub decreases-loop-start : goal.decreases-loop-start
decreases-loop-start l = l.start
