-- What contracts see of an output that is read.
use Rattle.std.specs.Prelude.{ℕ, ◌+◌, List, ◌++◌, length, min, take}
use Rattle.teco_store.specs.Parts.{joined}
use Rattle.teco_store.specs.declared.slices.Slices.{Slices}

-- its bytes, one slice after another
unfoldable pub bytes_in : Slices → List ℕ
bytes_in s = take s.len (s.first.now ++ joined s.own.now (s.input.now ++ s.shared.now) s.parts.now)

-- no fewer than there are slices: two of each part, and the one that comes first
abbrev pub most_slices : Slices → ℕ
most_slices s = (length s.parts.now + length s.parts.now) + min (length s.first.now) 1
