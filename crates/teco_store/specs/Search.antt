-- What a search leaves in the state.
use Rattle.std.specs.Prelude.{ℕ, ◌+◌, Bool, true, false, List, length, Option, Some, None, bytes_eq, if◌then◌else◌}
use Rattle.teco_store.specs.State.{State, spliced}

-- the last search text after a text is noted; none keeps it
abbrev pub text_after : Option (List ℕ) → Option (List ℕ) → Option (List ℕ)
text_after last None = last
text_after last (Some text) = Some text

-- A search leaves its text, its result, and the pointer.
abbrev pub noted : State → Option (List ℕ) → Bool → ℕ → State
noted s text found place = record s {
  last_search = text_after s.last_search text;
  last_found = found;
  pointer = place;
}

-- A search that found leaves its text, and these bytes in place of so many that it found, with the pointer after them.
abbrev pub replaced_noted : State → Option (List ℕ) → ℕ → ℕ → List ℕ → State
replaced_noted s text at deleted put = noted (spliced s at deleted put None) text true (at + length put)

abbrev pub length_of : Option (List ℕ) → ℕ
length_of None = 0
length_of (Some text) = length text

-- whether a text is the last one
abbrev pub is_last : Option (List ℕ) → List ℕ → Bool
is_last None text = false
is_last (Some last) text = bytes_eq text last

-- The load of noting a text is the old and the new one; none, or the same text again, has load 0.
abbrev pub note_load : State → Option (List ℕ) → ℕ
note_load s None = 0
note_load s (Some text) = if is_last s.last_search text then 0 else length_of s.last_search + length text

-- a text to be noted; none where it is the last one again
abbrev pub fresh : Option (List ℕ) → Option (List ℕ) → Option (List ℕ)
fresh last None = None
fresh last (Some text) = if is_last last text then None else Some text

-- the bytes of both sides, where there is one
abbrev pub fresh_load : Option (List ℕ) → Option (List ℕ) → ℕ
fresh_load last None = 0
fresh_load last (Some text) = length_of last + length text
