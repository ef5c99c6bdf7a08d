-- What is heard of a session before its strings are run again.
use Rattle.std.specs.Prelude.{◌≡◌, ◌⊎◌, ℕ, List, [], Some, map}
use Rattle.std.specs.List.{sum}
use Rattle.teco_fs.specs.Disk.{Files}
use Rattle.teco_fs.specs.State.{DiskState}
use Rattle.teco_journal.specs.Events.{Event, ran, undid, redid, cut, forgot}
use Rattle.teco_journal.specs.Heads.{Beginning}
use Rattle.teco_recorder.specs.declared.fault.OpenFault.{OpenFault}
use Rattle.teco_recorder.specs.declared.fault.OpenFault.TheVariants.{NoFile, NoMemory, Version, Head, Changed, Settings, Replay, Input}
use Rattle.teco_recorder.specs.declared.opening.Asked.{Asked}
use Rattle.teco_recorder.specs.Opening.{HasLines, OpenSession, Opens}

-- how many steps are run again for an event: those of its string
abbrev pub steps_in : Event → ℕ
steps_in (ran steps text) = steps
steps_in undid = 0
steps_in redid = 0
steps_in (cut steps) = 0
steps_in forgot = 0

-- and for some events
abbrev pub steps_again : List Event → ℕ
steps_again events = sum (map steps_in events)

-- How many steps they take was heard. Of no events nothing may be heard.
abbrev pub IsHeard : Type 0 → (ℕ → Type 0) → List Event → Type 0
IsHeard unheard heard events = (unheard × (events ≡ [])) ⊎ heard (steps_again events)

-- A session is opened, and how many steps its events take was heard.
pub record OpensHeard (unheard : Type 0) (heard : ℕ → Type 0) (start : Beginning) (asked : Asked) (name : List ℕ) (old new : DiskState)
    (is : OpenSession) : Type 0 where
  pub opens : Opens start asked name old new is
  pub is_heard : IsHeard unheard heard opens.events

-- A file had the lines of these events, and nothing behind them but a line that has no end.
pub record Held (events : List Event) (name : List ℕ) (old : DiskState) : Type 0 where
  pub beginning : Beginning
  pub torn : ℕ
  pub had : List ℕ
  pub lines : HasLines beginning events torn had
  pub there : (before : Files) → old.files ≡ Some before → before name ≡ Some had

-- The system refused something, or memory was.
abbrev pub IsOfSystem : OpenFault → Type 0
IsOfSystem (NoFile reason) = Unit {0}
IsOfSystem NoMemory = Unit {0}
IsOfSystem Version = ⊥
IsOfSystem Head = ⊥
IsOfSystem (Changed line) = ⊥
IsOfSystem Settings = ⊥
IsOfSystem (Replay fault) = ⊥
IsOfSystem Input = ⊥

-- What a file says, or is asked for, refuses it.
abbrev pub IsOfFile : OpenFault → Type 0
IsOfFile (NoFile reason) = ⊥
IsOfFile NoMemory = ⊥
IsOfFile Version = Unit {0}
IsOfFile Head = Unit {0}
IsOfFile (Changed line) = Unit {0}
IsOfFile Settings = Unit {0}
IsOfFile (Replay fault) = ⊥
IsOfFile Input = ⊥

-- Of a file that is not gone on with, nothing was heard if what it says refuses it. How many steps its strings take was heard if these show
-- that it is to be refused. Else either may be.
abbrev pub HeardBy : OpenFault → Type 0 → Type 0 → Type 0
HeardBy (NoFile reason) unheard heard = unheard ⊎ heard
HeardBy NoMemory unheard heard = unheard ⊎ heard
HeardBy Version unheard heard = unheard
HeardBy Head unheard heard = unheard
HeardBy (Changed line) unheard heard = unheard
HeardBy Settings unheard heard = unheard
HeardBy (Replay fault) unheard heard = heard
HeardBy Input unheard heard = heard

-- how many steps they take, of some events that the file had
abbrev pub HearsHeld : (ℕ → Type 0) → List ℕ → DiskState → Type 0
HearsHeld heard name old = (events : List Event) × Held events name old × heard (steps_again events)
