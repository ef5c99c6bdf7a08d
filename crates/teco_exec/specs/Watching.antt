-- What the watch that keeps the place knows, and what the one that seeks one has found.
use Rattle.std.specs.Prelude.{◌≡◌, ℕ, Bool, true, false, [], Option, Some, None}
use Rattle.teco_scan.specs.Breaks.{first_break}
use Rattle.teco_exec.specs.Places.{Told, Wanted, FindsWanted}
use Rattle.teco_exec.specs.Telling.{told_of}
use Rattle.teco_exec.specs.declared.place.Place.{Place}
use Rattle.teco_exec.specs.declared.seeking.Seeking.{Seeking}
use Rattle.teco_exec.specs.declared.watch.Watched.{Watched}

-- A place is kept as it was told, with the first fault of the text there.
pub record KeepsPlace (place : Place) (p : Told) : Type 0 where
  pub told : told_of p.profile p.text place ≡ p
  pub fault : place.fault ≡ first_break p.profile p.text

-- It keeps nothing; or what it has been told, where no memory lacked.
abbrev pub Knows : Watched → Option Told → Type 0
Knows w None = (w.has_stood ≡ false) × (w.lacks_memory ≡ false) × (w.place.calls.items ≡ [])
Knows w (Some p) = (w.has_stood ≡ true) × (w.lacks_memory ≡ false → KeepsPlace w.place p)

-- It seeks this, by what places of its kind want, and has found the first of so many steps that does, or none.
pub record Seeks {P : Type 0} (wants : P → ℕ → ℕ → Bool) (w : Seeking P) (sought : Wanted) (steps : ℕ) : Type 0 where
  pub wanted : sought.wanted ≡ wants w.places
  pub from : sought.from ≡ w.from
  pub found : FindsWanted sought steps w.found
