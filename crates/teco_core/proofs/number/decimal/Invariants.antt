use Rattle.std.proofs.Common.{◌≡◌, pos, take}
use Rattle.teco_core.specs.Number.{digits_value}
use Rattle.teco_core.proofs.number.decimal.Given as goal

-- The value of the digits as far as the loop has come.
abbrev pub invariant-loop-digit : goal.invariant-loop-digit
invariant-loop-digit l = l.value ≡ pos (digits_value 0 (take l.digit-index l.digits))
