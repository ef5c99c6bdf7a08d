-- What a put does to what a terminal shows, where it tells that, and to its count of failures.
use Rattle.std.specs.Prelude.{◌≡◌, ℕ, ◌+◌, ◌%◌, ◌^◌, List, ◌++◌, Option, Result, Ok, Err, Bool, true, false}
use Rattle.std.specs.Io.KnownBytes.{Appends}

-- what is seen of a terminal: the bytes shown so far, where it tells them; and how often a put has failed, modulo 2^64
pub record Screen : Type 0 where
  pub shown : Option (List ℕ)
  pub failures : ℕ

-- a count of failures, modulo 2^64, after a call that failed or did not
abbrev pub count_after : Bool → ℕ → ℕ
count_after true n = (n + 1) % 2 ^ 64
count_after false n = n

-- front is a beginning of the bytes
abbrev pub IsFrontOf : List ℕ → List ℕ → Type 0
IsFrontOf front bytes = (rest : List ℕ) × (bytes ≡ front ++ rest)

-- A terminal showed these bytes more, where it tells, and its count rose if and only if it failed.
pub record Shows (old new : Screen) (bytes : List ℕ) (failed : Bool) : Type 0 where
  pub more : Appends old.shown new.shown bytes
  pub count : new.failures ≡ count_after failed old.failures

-- A put that is Ok left the count; of a terminal that tells its bytes, it showed all that were put. One that is Err added one to the
-- count, and showed a beginning of them.
abbrev pub Puts : {A E : Type 0} → Screen → Screen → List ℕ → Result A E → Type 0
Puts old new bytes (Ok done) = Shows old new bytes false
Puts old new bytes (Err fault) = (front : List ℕ) × IsFrontOf front bytes × Shows old new front true
