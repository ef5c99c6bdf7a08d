use Rattle.std.proofs.Common.{◌≡◌, None, drop}
use Rattle.teco_journal.specs.Events.{events_of}
use Rattle.teco_recorder.specs.Opening.{last_output}
use Rattle.teco_replay.specs.Told.{after_events}
use Rattle.teco_session.specs.Kept.{history_of}
use Rattle.teco_recorder.proofs.LastOutputs.{IsLastSoFar}
use Rattle.teco_recorder.proofs.outputs.is_last_again.Given as goal

abbrev pub invariant-loop-told : goal.invariant-loop-told
invariant-loop-told l = IsLastSoFar (history_of l.session) (drop l.told-index l.records) l.is_last l.bytes
    (last_output (history_of l.initial.session) (events_of l.records) None)
    × (after_events (history_of l.session) (events_of (drop l.told-index l.records)) ≡ after_events (history_of l.initial.session) (events_of l.records))
