-- What contracts see of what an entry holds.
use Rattle.std.specs.Prelude.{ℕ, ◌∷◌, ◌≤◌, List, [], take}
use Rattle.teco_store.specs.Turn.{Note as Change}
use Rattle.teco_session.specs.declared.text.TextForm.{TextForm}
use Rattle.teco_session.specs.declared.text.TextForm.TheVariants.{Short, Long}
use Rattle.teco_session.specs.declared.text.TheConstants.{SHORT_LIMIT}
use Rattle.teco_session.specs.declared.changes.ChangesForm.{ChangesForm}
use Rattle.teco_session.specs.declared.changes.ChangesForm.TheVariants.{Empty, One, Many}

-- The bytes of a short text are so many of its places as its count says, from the first on. What lies in the
-- others means nothing.
abbrev pub bytes_of : TextForm → List ℕ
bytes_of (Short count places) = take count places
bytes_of (Long held) = held.items

-- A short text has no more bytes than places.
abbrev pub HasPlaces : TextForm → Type 0
HasPlaces (Short count places) = count ≤ SHORT_LIMIT
HasPlaces (Long held) = Unit {0}

-- the changes, the first first, wherever they lie
abbrev pub changes_of : ChangesForm → List Change
changes_of Empty = []
changes_of (One change) = change ∷ []
changes_of (Many changes) = changes.items
