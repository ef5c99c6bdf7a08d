use Rattle.teco_store.specs.Slices.{most_slices}
use Rattle.teco_tests.proofs.tests.store.states.put_output.Given as goal

abbrev pub decreases-loop-slice : goal.decreases-loop-slice
decreases-loop-slice l = most_slices l.left
