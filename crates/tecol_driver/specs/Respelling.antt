-- Changes of commands, made in their source.
use Rattle.std.specs.Prelude.{ℕ, ◌+◌, ◌-◌, List, [], ◌∷◌, ◌++◌, codes, drop, length, max, min, nat_lt, take, Option, Some, None, option_map, slice_get, unwrap_or, Bool, true, false, ◌==◌, ◌||◌, if◌then◌else◌}
use Prim.Native.Char.{code}
use Rattle.tecol_driver.specs.declared.respelling.Source.{Source}
use Rattle.tecol_driver.specs.declared.synonyms.Change.{Change}

-- the places of a source, if it has some
abbrev pub source_places : Source → Option (List ℕ)
source_places source = option_map (λ places. places.now) source.places

-- Where in a source a byte of the commands begins, of which these are the places. Without places the commands are the source.
abbrev pub place_by : List ℕ → Option (List ℕ) → ℕ → ℕ
place_by source None at = at
place_by source (Some places) at = unwrap_or (slice_get places at) (length source)

-- the same, not before this place
abbrev pub source_place : List ℕ → Option (List ℕ) → ℕ → ℕ → ℕ
source_place source places at least = min (max (place_by source places at) least) (length source)

-- A byte of commands has one byte in a source, and two where that is a caret.
abbrev pub long_by : Option ℕ → ℕ
long_by None = 1
long_by (Some b) = if b == code "^" then 2 else 1

abbrev pub long_in : List ℕ → Option (List ℕ) → ℕ → ℕ
long_in source None place = 1
long_in source (Some places) place = long_by (slice_get source place)

-- the place after the byte that begins at one
abbrev pub next_place : List ℕ → Option (List ℕ) → ℕ → ℕ
next_place source places place = min (place + long_in source places place) (length source)

-- a byte as a source has it, wherever it stands
abbrev pub source_byte : ℕ → List ℕ
source_byte b =
    if nat_lt b 32 then code "^" ∷ (b + 64) ∷ []
    else (if b == code "!" || b == code "$" then code "^" ∷ b ∷ [] else (if b == code "^" then codes "^~"
    else (if b == 127 then codes "^?" else b ∷ [])))

abbrev pub byte_spelled : Option (List ℕ) → ℕ → List ℕ
byte_spelled None b = b ∷ []
byte_spelled (Some places) b = source_byte b

-- what comes by a change
abbrev pub put_second : Option (List ℕ) → Option ℕ → List ℕ
put_second places None = []
put_second places (Some b) = byte_spelled places b

abbrev pub change_bytes : Option (List ℕ) → Change → List ℕ
change_bytes places change = byte_spelled places change.first ++ put_second places change.second

-- the place up to which a source is left out after a change at a place
abbrev pub done_after : List ℕ → Option (List ℕ) → Bool → ℕ → ℕ
done_after source places true place = place
done_after source places false place = next_place source places place

-- The source from a place on, with these changes made, which come in the order of their places. All other bytes stay.
unfoldable pub respelled_from : List ℕ → Option (List ℕ) → ℕ → List Change → List ℕ
respelled_from source places done [] = drop done source
respelled_from source places done (change ∷ changes) = let place = source_place source places change.at done in
    take (place - done) (drop done source) ++ change_bytes places change
    ++ respelled_from source places (done_after source places change.stays place) changes

-- the source with the changes made
abbrev pub respelled : List ℕ → Option (List ℕ) → List Change → List ℕ
respelled source places changes = respelled_from source places 0 changes
