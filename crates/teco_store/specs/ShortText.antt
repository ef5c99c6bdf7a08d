-- What contracts see of a short text.
use Rattle.std.specs.Prelude.{ℕ, ◌≤◌, List, take}
use Rattle.teco_store.specs.declared.short_text.ShortText.TheInside.{Inside}
use Rattle.teco_store.specs.declared.short_text.TheConstants.{SHORT_LIMIT}

-- The bytes of a short text are so many of its places as its length says, from the first on. What lies in the others means nothing.
abbrev pub bytes_of : Inside → List ℕ
bytes_of s = take s.len s.bytes

-- It has no more bytes than places.
abbrev pub IsShort : Inside → Type 0
IsShort s = s.len ≤ SHORT_LIMIT
