-- What is told of the file of a session: its head, and a line for what each request did.
use Rattle.std.specs.Prelude.{◌≡◌, ℕ, ◌==◌, ◌≤◌, ◌<◌, List, length, Option, Some, None, if◌then◌else◌}
use Rattle.teco_core.specs.declared.profile.Profile.{Profile}
use Rattle.teco_journal.specs.Events.{Event, ran, undid, redid, cut, forgot}
use Rattle.teco_journal.specs.Heads.{Beginning}
use Rattle.teco_ffi.specs.Calls.{depth_asked}
use Rattle.teco_ffi.specs.Rooms.{filled}
use Rattle.teco_ffi.specs.declared.lines.Line.{Line}
use Rattle.teco_ffi.specs.declared.lines.TheConstants.{RAN, UNDID, REDID, REWOUND, FORGOT}

-- what was done, by its number: a text was run, and took so many steps, or the last string was cut after so many
abbrev pub event_named : ℕ → ℕ → List ℕ → Option Event
event_named kind steps text =
    if kind == RAN then Some (ran steps text)
    else (if kind == UNDID then Some undid
    else (if kind == REDID then Some redid
    else (if kind == REWOUND then Some (cut steps)
    else (if kind == FORGOT then Some forgot else None))))

-- what a session over this input begins with, as it is opened: the profile, how many lines end a page, and its depth
abbrev pub beginning_asked : Profile → ℕ → ℕ → List ℕ → Beginning
beginning_asked p lines depth input = record { profile = p; lines = lines; depth = depth_asked depth; input = input }

-- These bytes are told: how many they are; and if there is room for them they are copied, and the check is the one after them.
pub record IsLineTold (bytes check : List ℕ) (old new : Line) : Type 0 where
  pub made : new.made ≡ length bytes
  pub room : length bytes ≤ length old.room.now → (new.room.now ≡ filled old.room.now bytes) × (new.check ≡ check)
  pub small : length old.room.now < length bytes → (new.room.now ≡ old.room.now) × (new.check ≡ old.check)

-- Nothing is told.
pub record IsNoLineTold (old new : Line) : Type 0 where
  pub made : new.made ≡ 0
  pub room : new.room.now ≡ old.room.now
  pub check : new.check ≡ old.check

-- what stays as it was given
pub record KeepsLine (old new : Line) : Type 0 where
  pub kind : new.kind ≡ old.kind
  pub steps : new.steps ≡ old.steps
  pub same : new.room.ghost_name ≡ old.room.ghost_name
