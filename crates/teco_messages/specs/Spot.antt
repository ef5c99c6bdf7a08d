-- Lines and columns.
use Rattle.std.specs.Prelude.{ℕ, ◌+◌, Bool, ◌==◌, List, take, length, count_by}
use Rattle.std.specs.List.{after_last}
use Rattle.teco_messages.specs.declared.spot.Spot.{Spot}
use Prim.Native.Char.{code}

abbrev pub is_newline : ℕ → Bool
is_newline b = b == code "\n"

-- A place is in the line after as many as have ended before it, and its column tells the bytes of that line
-- before it; both count from 1.
abbrev pub spot_of : List ℕ → ℕ → Spot
spot_of text at = record {
  line = count_by is_newline (take at text) + 1;
  column = length (after_last is_newline (take at text)) + 1;
}
