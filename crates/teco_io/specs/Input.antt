-- Why a source's bytes are not all given as the input.
use Rattle.std.specs.Prelude.{ℕ, ◌≤◌, ◌<◌, List, length, Bool, true, false}
use Rattle.teco_io.specs.declared.input.InputFault.{InputFault}
use Rattle.teco_io.specs.declared.input.InputFault.TheVariants.{Read, TooLarge, Memory}

-- The fault is that of a reading of at most so many bytes. `gave` says which bytes the source gave, and
-- whether a read failed.
abbrev pub IsFaultOf : ℕ → (List ℕ → Bool → Type 0) → InputFault → Type 0
-- after at most so many bytes a read failed
IsFaultOf max gave Read = (bytes : List ℕ) × (length bytes ≤ max) × gave bytes true
-- no read failed, and more bytes came
IsFaultOf max gave TooLarge = (bytes : List ℕ) × (max < length bytes) × gave bytes false
-- no read failed, and at most so many bytes came, but some
IsFaultOf max gave Memory = (bytes : List ℕ) × (0 < length bytes) × (length bytes ≤ max) × gave bytes false
