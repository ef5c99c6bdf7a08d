use Rattle.std.proofs.Common.{◌≡◌, take}
use Rattle.teco_store.specs.State.{state_of}
use Rattle.teco_driver.specs.Values.{with_values}
use Rattle.teco_driver.proofs.values.put_values.Given as goal

abbrev pub invariant-loop-assignment : goal.invariant-loop-assignment
invariant-loop-assignment l = state_of l.editor ≡ with_values (take l.assignment-index l.values) (state_of l.fn.editor)
