use Rattle.teco_store.specs.Slices.{most_slices}
use Rattle.teco_fs.proofs.target.append.Given as goal

abbrev pub decreases-loop-slice : goal.decreases-loop-slice
decreases-loop-slice g l = most_slices l.left
