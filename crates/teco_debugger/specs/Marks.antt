-- Which places of the sources are marked, since a walk that goes on may have to stop there.
use Rattle.std.specs.Prelude.{◌≡◌, ℕ, ◌+◌, ◌-◌, ◌≤◌, ◌==◌, ◌&&◌, ◌||◌, Bool, false, List, length, nat_lt, slice_get, slice_index_or, if◌then◌else◌, Option, Some, None}
use Rattle.std.specs.declared.alloc.Global.{Global}
use Rattle.std.specs.declared.vec.Vec.{Vec}
use Rattle.teco_messages.specs.declared.spot.Spot.{Spot}
use Rattle.teco_messages.specs.Spot.{is_newline}
use Rattle.teco_debugger.specs.Moving.{is_any_there, is_spot}
use Rattle.teco_debugger.specs.Sources.{number_at, place_in_source, shown_string}
use Rattle.teco_debugger.specs.declared.sources.SourceText.{SourceText}
use Rattle.teco_debugger.specs.declared.stops.Break.{Break}

-- the line and the column behind a byte
abbrev pub spot_behind : Spot → ℕ → Spot
spot_behind here byte = if is_newline byte then record { line = here.line + 1; column = 1 } else record { line = here.line; column = here.column + 1 }

abbrev pub is_marked : Option (Vec Bool Global) → ℕ → Bool
is_marked (Some marks) place = slice_index_or marks.items place false
is_marked None place = false

-- a place of the source of this number is marked
abbrev pub mark_of : List (Vec Bool Global) → ℕ → ℕ → Bool
mark_of marks number place = is_marked (slice_get marks number) place

-- a place of the string is, where it is shown
abbrev pub mark_at : List SourceText → List (Vec Bool Global) → ℕ → Bool
mark_at sources marks at = mark_of marks (number_at sources at) (place_in_source (slice_get sources (number_at sources at)) at)

-- with so many calls open a place of the innermost text is wanted: with fewer calls open than so many, or with none where it is marked
abbrev pub is_wanted : List SourceText → List (Vec Bool Global) → ℕ → ℕ → ℕ → Bool
is_wanted sources marks below calls at = nat_lt calls below || (calls == 0 && mark_at sources marks at)

-- These are the marks of a text, as the source of this number.
abbrev pub MarkText : List Break → ℕ → List ℕ → List Bool → Type 0
MarkText stops number text marks = (place : ℕ) → slice_index_or marks place false ≡ is_spot (is_any_there stops) number text place

-- These are the marks of all sources.
abbrev pub AreMarks : List SourceText → List ℕ → List Break → List (Vec Bool Global) → Type 0
AreMarks sources text stops marks = (number : ℕ) → number ≤ length sources - 1
    → (place : ℕ) → mark_of marks number place ≡ is_spot (is_any_there stops) number (shown_string sources number text) place
