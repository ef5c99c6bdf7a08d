-- What is told of the calls that are open where a string stopped.
use Rattle.std.specs.Prelude.{ℕ, List, [], ◌++◌, length, take, drop, map, min, Option, Some, None, Result, Ok, Err}
use Rattle.std.specs.declared.alloc.AllocError.{AllocError}
use Rattle.teco_exec.specs.declared.place.Call.{Call}
use Rattle.teco_exec.specs.declared.place.Place.{Place}
use Rattle.teco_ffi.specs.Kinds.{register_name}
use Rattle.teco_ffi.specs.declared.answers.TheConstants.{NOWHERE}
use Rattle.teco_ffi.specs.declared.frames.OpenCall.{OpenCall}

-- a call as it is told: its place in the text that calls, and the name of the register whose text it calls
abbrev pub open_call : Call → OpenCall
open_call call = record { at = call.at; name = register_name call.register }

-- the calls that are open at a place, the latest first
abbrev pub open_calls : Result (Option Place) AllocError → List OpenCall
open_calls (Err e) = []
open_calls (Ok None) = []
open_calls (Ok (Some p)) = map open_call p.calls.items

-- the place of the token in the innermost text
abbrev pub place_within : Result (Option Place) AllocError → ℕ
place_within (Err e) = NOWHERE
place_within (Ok None) = NOWHERE
place_within (Ok (Some p)) = p.at

-- a room whose front is overwritten by these calls, as many as there is room for
abbrev pub filled_calls : List OpenCall → List OpenCall → List OpenCall
filled_calls room calls = take (min (length calls) (length room)) calls
    ++ drop (min (length calls) (length room)) room
