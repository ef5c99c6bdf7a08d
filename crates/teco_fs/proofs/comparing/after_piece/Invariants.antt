use Rattle.std.proofs.Common.{◌≡◌, ◌++◌, List, ℕ}
use Rattle.teco_store.specs.Slices.{bytes_in, most_slices}
use Rattle.teco_fs.proofs.comparing.after_piece.Given as goal

abbrev pub invariant-slices : goal.invariant-slices
invariant-slices l = (given : List ℕ) × (l.slice ++ bytes_in l.others ≡ given ++ (l.front ++ bytes_in l.left)) × (l.piece ≡ given ++ l.wanted)

abbrev pub decreases-slices : goal.decreases-slices
decreases-slices l = most_slices l.left
