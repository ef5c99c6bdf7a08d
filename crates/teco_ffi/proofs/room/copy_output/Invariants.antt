use Rattle.std.proofs.Common.{◌≡◌, ◌++◌, drop, length, min, List, ℕ}
use Rattle.teco_ffi.specs.Rooms.{filled}
use Rattle.teco_store.specs.Slices.{bytes_in, most_slices}
use Rattle.teco_ffi.proofs.room.copy_output.Given as goal

-- Some bytes were copied, and others come after them.
abbrev pub invariant-loop-slice : goal.invariant-loop-slice
invariant-loop-slice l = (given : List ℕ) × (drop l.from (bytes_in l.output) ≡ given ++ drop l.past (bytes_in l.left)) × (l.room ≡ filled l.initial.room given)
    × (l.count ≡ min (length given) (length l.initial.room))

abbrev pub decreases-loop-slice : goal.decreases-loop-slice
decreases-loop-slice l = most_slices l.left
