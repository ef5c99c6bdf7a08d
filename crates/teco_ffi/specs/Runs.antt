-- What a run is given, and what it tells.
use Rattle.std.specs.Prelude.{◌≡◌, ℕ, List, length, take, Option, Some, None, Result}
use Rattle.std.specs.declared.alloc.AllocError.{AllocError}
use Rattle.teco_exec.specs.declared.place.Place.{Place}
use Rattle.teco_session.specs.declared.request.Answer.{Answer}
use Rattle.teco_ffi.specs.Calls.{RunsTo, RunsToWithin}
use Rattle.teco_ffi.specs.Frames.{filled_calls, open_calls, place_within}
use Rattle.teco_ffi.specs.Handle.{Kept}
use Rattle.teco_ffi.specs.Numbers.{answer_number, steps_of}
use Rattle.teco_ffi.specs.Places.{IsWhere, told_at, told_calls}
use Rattle.teco_ffi.specs.Stopper.{SeenFlag}
use Rattle.teco_ffi.specs.Stops.{flag_answers}
use Rattle.teco_ffi.specs.declared.answers.TheConstants.{NOWHERE}
use Rattle.teco_ffi.specs.declared.runs.Run.{Run}

-- With no stopper a string runs under its limit. With one it does so too, or it is broken off, as under a limit of the steps it took.
abbrev pub RunsAsked : Option SeenFlag → ℕ → Kept → List ℕ → Answer → List ℕ → Kept → Type 0
RunsAsked None limit old text answer typed new = RunsTo limit old text answer typed new
RunsAsked (Some flag) limit old text answer typed new = RunsToWithin flag_answers limit old text answer typed new

-- It is told so where the string stopped: in the string itself, in the innermost text, and each call that is open.
abbrev pub TellsWhere : Kept → List ℕ → Answer → Run → Run → Type 0
TellsWhere old text answer given told = (place : Result (Option Place) AllocError)
    × IsWhere old text answer place × (told.at ≡ told_at (length text) place) × (told.inner ≡ place_within place)
    × (told.calls ≡ told_calls place) × (told.frames.now ≡ filled_calls given.frames.now (open_calls place))

-- A string runs as it is given on a session. It is told by this number, by the typed bytes and the steps, and by the place.
abbrev pub TellsRun : Kept → List ℕ → ℕ → Run → Run → Kept → Type 0
TellsRun old text code given told new = (answer : Answer)
    × (code ≡ answer_number answer) × (told.steps ≡ steps_of answer)
    × RunsAsked given.stopper.value given.limit old text answer (take told.made told.room.now) new
    × TellsWhere old text answer given told

-- No string was run: nothing is told, and both rooms stay as they were.
abbrev pub TellsNothing : Run → Run → Type 0
TellsNothing given told = (told.made ≡ 0) × (told.steps ≡ 0) × (told.at ≡ NOWHERE) × (told.inner ≡ NOWHERE)
    × (told.calls ≡ 0) × (told.room.now ≡ given.room.now) × (told.frames.now ≡ given.frames.now)

-- What was given stays: the limit, the stopper, and the two rooms where they are and as long as they are.
abbrev pub KeepsGiven : Run → Run → Type 0
KeepsGiven given told = (told.limit ≡ given.limit) × (told.stopper ≡ given.stopper)
    × (told.room.ghost_name ≡ given.room.ghost_name) × (length told.room.now ≡ length given.room.now)
    × (told.frames.ghost_name ≡ given.frames.ghost_name) × (length told.frames.now ≡ length given.frames.now)
