-- What a read takes from a source.
use Rattle.std.specs.Prelude.{◌≡◌, ℕ, ◌+◌, List, length, Option, Bool, true}
use Rattle.std.specs.Io.KnownBytes.{Consumes, IsAtEnd}
use Rattle.teco_io.specs.Terminal.{count_after}

-- These bytes were given, off the front of what was still to come, where the source tells it, and off the
-- bound; and the count rose if and only if the read failed.
pub record Gives {S : Type 0} (coming : S → Option (List ℕ)) (bound : S → ℕ) (failures : S → ℕ) (old new : S)
    (bytes : List ℕ) (failed : Bool) : Type 0 where
  pub given : Consumes (coming old) (coming new) bytes
  pub less : bound new + length bytes ≡ bound old
  pub count : failures new ≡ count_after failed (failures old)

-- The source has ended, and nothing is still to come where it tells that.
abbrev pub HasEnded : Option (List ℕ) → Bool → Type 0
HasEnded coming ended = (ended ≡ true) × IsAtEnd coming
