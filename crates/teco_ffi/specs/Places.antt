-- What is told of where a string stopped.
use Rattle.std.specs.Prelude.{◌≡◌, ℕ, ◌-◌, List, length, min, true, Option, Some, None, IfSome, Result, Ok, Err, slice_get}
use Rattle.std.specs.declared.alloc.AllocError.{AllocError}
use Rattle.teco_exec.specs.Telling.{TellsPlace}
use Rattle.teco_exec.specs.declared.place.Call.{Call}
use Rattle.teco_exec.specs.declared.place.Place.{Place}
use Rattle.teco_session.specs.Answers.{is_unbegun, outcome_of}
use Rattle.teco_session.specs.History.{present}
use Rattle.teco_session.specs.Kept.{history_of}
use Rattle.teco_session.specs.declared.request.Answer.{Answer}
use Rattle.teco_ffi.specs.Handle.{Kept}
use Rattle.teco_ffi.specs.declared.answers.TheConstants.{NOWHERE}

-- The place in the string itself: of the outermost call, which comes last, or of the token where no call is open.
abbrev pub call_or : ℕ → Option Call → ℕ
call_or at None = at
call_or at (Some call) = call.at

abbrev pub outermost : Place → ℕ
outermost p = call_or p.at (slice_get p.calls.items (length p.calls.items - 1))

-- what is told of it in a string of so many bytes, past whose end there is nothing
abbrev pub told_at : ℕ → Result (Option Place) AllocError → ℕ
told_at size (Err e) = NOWHERE
told_at size (Ok None) = NOWHERE
told_at size (Ok (Some p)) = min (outermost p) size

-- and how many calls are open there
abbrev pub told_calls : Result (Option Place) AllocError → ℕ
told_calls (Err e) = 0
told_calls (Ok None) = 0
told_calls (Ok (Some p)) = length p.calls.items

-- Of a string that was run and has this answer, this is where it stopped; a string that was not begun stopped nowhere.
abbrev pub IsWhere : Kept → List ℕ → Answer → Result (Option Place) AllocError → Type 0
IsWhere old text answer place = IfSome (outcome_of answer)
    (λ outcome. TellsPlace (present (history_of old)) text outcome place)
    × (is_unbegun answer ≡ true → place ≡ Ok None)
