-- Commands as command strings, and whether each of them is clean.
use Rattle.std.specs.Prelude.{◌≡◌, ◌+◌, ℕ, length, Bool, false, not, ◌&&◌, List, [], ◌∷◌, ◌++◌, is_some, if◌then◌else◌}
use Rattle.std.specs.List.{list_any}
use Rattle.teco_scan.specs.Stream.{asks_of, ends_in_escape, is_run, rest_of, texts_of}
use Rattle.teco_check.specs.Walk.{first_of}
use Rattle.teco_lint.specs.declared.remarks.Remark.{Remark}
use Rattle.teco_lint.specs.Told.{TellsFirst}
use Rattle.teco_core.specs.declared.profile.Profile.{Profile}

-- The texts that a run of the commands reads, and then what comes after the last pair of ESC: that is a string too.
abbrev pub strings_of : List ℕ → List (List ℕ)
strings_of commands = texts_of commands ++ rest_of commands ∷ []

-- A string that asks a run for an undo, a redo or a rewind is not checked. Without the first ESC of its pair it asks nothing yet.
abbrev pub is_request : List ℕ → Bool
is_request string = ends_in_escape string && not (is_run (asks_of string))

-- The text isn't clean, where these registers hold code: it has a fault, or something that no check looks into.
abbrev pub is_unclean_text : Profile → List Bool → List ℕ → Bool
is_unclean_text p code text = is_some (first_of p code text)

-- The string is such a text.
abbrev pub is_unclean_string : Profile → List Bool → List ℕ → Bool
is_unclean_string p code string = if is_request string then false else is_unclean_text p code string

-- One of the command strings is.
abbrev pub is_unclean : Profile → List Bool → List ℕ → Bool
is_unclean p code commands = list_any (is_unclean_string p code) (strings_of commands)

-- Of each string that is no request, the first of which begins at this place, the first fault is told. The next string begins after the
-- second ESC of the pair that ends one.
abbrev pub AreTold : Profile → List Bool → List Remark → ℕ → List (List ℕ) → Type 0
AreTold p code remarks from [] = Unit {0}
AreTold p code remarks from (s ∷ ss) = (is_request s ≡ false → TellsFirst p code remarks from s) × AreTold p code remarks (from + length s + 1) ss
