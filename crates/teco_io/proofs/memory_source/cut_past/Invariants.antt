use Rattle.std.proofs.Common.{◌≡◌, ◌-◌, ℕ, List, drop, length}
use Rattle.teco_io.specs.Pieces.{pieces_at}
use Rattle.teco_io.proofs.memory_source.cut_past.Given as goal

abbrev pub invariant-loop-place : goal.invariant-loop-place
invariant-loop-place l = (bs : List ℕ) → pieces_at l.at bs (drop l.place l.cuts) ≡ pieces_at l.at bs (drop l.next l.cuts)

abbrev pub decreases-loop-place : goal.decreases-loop-place
decreases-loop-place l = length l.cuts - l.place
