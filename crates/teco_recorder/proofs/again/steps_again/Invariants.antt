use Rattle.std.proofs.Common.{◌≡◌, ◌+◌, ◌*◌, ◌≤◌, ◌^◌, drop}
use Rattle.teco_journal.specs.Events.{events_of}
use Rattle.teco_recorder.specs.Again.{steps_again}
use Rattle.teco_recorder.proofs.again.steps_again.Given as goal

abbrev pub invariant-loop-told : goal.invariant-loop-told
invariant-loop-told l = (l.steps + steps_again (events_of (drop l.told-index l.records)) ≡ steps_again (events_of l.records))
    × (l.steps ≤ l.told-index * 2 ^ 64)
