-- What always holds of numbers in the buffer.
use Rattle.std.specs.Prelude.{◌≡◌, List, ◌++◌, length, ℕ, true, false, ℤ, int_le}
use Rattle.teco_core.specs.Number.{lowest, highest}
use Rattle.teco_scan.specs.Scan.{begins_run}
use Rattle.std.specs.Fmt.{signed_decimal}
use Rattle.teco_step.specs.Decimal.{numeral_at}

-- What n\ inserts is read back by \ as n, where no digit comes after it.
abbrev pub ReadsWhatItInserts : Type 0
ReadsWhatItInserts = (n : ℤ) (rest : List ℕ) → int_le lowest n ≡ true → int_le n highest ≡ true
    → begins_run rest ≡ false
    → numeral_at (signed_decimal n ++ rest) ≡ record { value = n; size = length (signed_decimal n) }
