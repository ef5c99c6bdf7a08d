-- The sources of a command string, and what is shown of its places.
use Rattle.std.specs.Prelude.{◌≡◌, ◌↔◌, ℕ, ◌-◌, ◌==◌, nat_le, nat_lt, List, [], ◌∷◌, length, count_by, slice_get, if◌then◌else◌, Option, Some, None, IfSome, ⊤}
use Rattle.std.specs.List.{slice_index_or}
use Rattle.std.specs.String.{string_bytes}
use Rattle.teco_exec.specs.Telling.{IsLastPlace}
use Rattle.teco_exec.specs.declared.place.Call.{Call}
use Rattle.teco_exec.specs.declared.place.Place.{Place}
use Rattle.teco_debugger.specs.Walk.{KeptWalk, base, meant}
use Rattle.teco_debugger.specs.declared.sources.SourceText.{SourceText}
use Rattle.teco_debugger.specs.declared.sources.Shown.{Shown}
use Rattle.teco_debugger.specs.declared.walk.Seen.{Seen}

-- what a run of the string under a limit of n steps shows: how it ended, what it typed, and where it last stood
pub record IsSeen (walk : KeptWalk) (n : ℕ) (seen : Seen) : Type 0 where
  pub place : IfSome seen.place (λ p. IsLastPlace (base walk) walk.text seen.outcome.steps p)
  pub told : (seen.place ≡ None) ↔ (seen.outcome.code ≡ None)
  pub steps : seen.outcome.steps ≡ (meant (base walk) walk.text n).steps
  pub code : seen.outcome.code ≡ (meant (base walk) walk.text n).code
  pub typed : seen.typed.items ≡ (meant (base walk) walk.text n).typed

abbrev pub text_or : Option SourceText → List ℕ → List ℕ
text_or (Some source) text = source.text.items
text_or None text = text

-- the string as it is shown: the source of this number, with each dollar sign made ESC, or the string itself
abbrev pub shown_string : List SourceText → ℕ → List ℕ → List ℕ
shown_string sources number text = text_or (slice_get sources number) text

-- the number of the source that has a place of the string: of those that begin there or before it is the last
abbrev pub number_at : List SourceText → ℕ → ℕ
number_at sources at = count_by (λ source. nat_le source.from at) sources - 1

abbrev pub at_of_call : Option Call → ℕ → ℕ
at_of_call (Some call) at = call.at
at_of_call None at = at

-- where a run stands in the string: at its place, or at that of the outermost_place of the open calls
abbrev pub outermost_place : Place → ℕ
outermost_place place = at_of_call (slice_get place.calls.items (length place.calls.items - 1)) place.at

abbrev pub number_of_place : List SourceText → Option Place → ℕ
number_of_place sources (Some place) = number_at sources (outermost_place place)
number_of_place sources None = 0

abbrev pub name_or_none : Option SourceText → List ℕ
name_or_none (Some source) = string_bytes source.name
name_or_none None = []

-- the name of a source, if there are several
abbrev pub shown_name : List SourceText → ℕ → List ℕ
shown_name sources number = if nat_lt 1 (length sources) then name_or_none (slice_get sources number) else []

-- where a byte of the string begins in its source; the end of the source, if none is there
abbrev pub shown_place : SourceText → ℕ → ℕ
shown_place source at = slice_index_or source.places.items (at - source.from) (length source.text.items)

-- a place of the string as it is shown, in the source that has it
abbrev pub place_in_source : Option SourceText → ℕ → ℕ
place_in_source (Some source) at = shown_place source at
place_in_source None at = at

-- The outermost_place of the open calls is one of the string.
abbrev pub outermost_shown : SourceText → List Call → List Call
outermost_shown source [] = []
outermost_shown source (call ∷ []) = record call { at = shown_place source call.at } ∷ []
outermost_shown source (call ∷ next ∷ calls) = call ∷ outermost_shown source (next ∷ calls)

-- A place of a run as it is shown: it is in the source itself if no call is open.
pub record IsShownPlace (source : SourceText) (old new : Place) : Type 0 where
  pub steps : new.steps ≡ old.steps
  pub at : new.at ≡ (if length old.calls.items == 0 then shown_place source old.at else old.at)
  pub turns : new.turns ≡ old.turns
  pub calls : new.calls.items ≡ outermost_shown source old.calls.items

abbrev pub IsShownIf : SourceText → Option Place → Option Place → Type 0
IsShownIf source (Some old) (Some new) = IsShownPlace source old new
IsShownIf source None None = ⊤
IsShownIf source (Some old) None = ⊥
IsShownIf source None (Some new) = ⊥

-- What a run shows, with its place as that is shown.
abbrev pub IsShownSeen : Option SourceText → Seen → Seen → Type 0
IsShownSeen None old new = new ≡ old
IsShownSeen (Some source) old new =
    (new.outcome ≡ old.outcome) × (new.typed ≡ old.typed) × IsShownIf source old.place new.place

-- what a run of the string under a limit of n steps shows, with its place in the source that has it, and the number of that source
abbrev pub IsShownAt : List SourceText → KeptWalk → ℕ → Shown → Type 0
IsShownAt sources walk n shown = (seen : Seen) × IsSeen walk n seen × (shown.number ≡ number_of_place sources seen.place)
    × IsShownSeen (slice_get sources shown.number) seen shown.seen
