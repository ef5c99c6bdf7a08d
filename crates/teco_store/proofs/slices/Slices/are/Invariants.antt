use Rattle.std.proofs.Common.{◌≡◌, ◌++◌, List, ℕ}
use Rattle.teco_store.specs.Slices.{bytes_in, most_slices}
use Rattle.teco_store.proofs.slices.Slices.are.Given as goal

abbrev pub invariant-loop-slice : goal.invariant-loop-slice
invariant-loop-slice l = (given : List ℕ) × (bytes_in l.self ≡ given ++ bytes_in l.left) × (l.bytes ≡ given ++ l.wanted)

abbrev pub decreases-loop-slice : goal.decreases-loop-slice
decreases-loop-slice l = most_slices l.left
