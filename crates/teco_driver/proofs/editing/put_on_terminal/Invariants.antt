use Rattle.std.proofs.Common.{◌≡◌, ◌++◌, List, ℕ, false}
use Rattle.teco_io.specs.Terminal.{Shows}
use Rattle.teco_store.specs.Slices.{bytes_in, most_slices}
use Rattle.teco_driver.proofs.editing.put_on_terminal.Given as goal

abbrev pub invariant-loop-slice : goal.invariant-loop-slice
invariant-loop-slice g l = (given : List ℕ) × (bytes_in l.output ≡ given ++ bytes_in l.left) × Shows (g.T.Terminal.screen l.fn.term) (g.T.Terminal.screen l.term) given false

abbrev pub decreases-loop-slice : goal.decreases-loop-slice
decreases-loop-slice g l = most_slices l.left
