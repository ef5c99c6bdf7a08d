use Rattle.std.proofs.Common.{◌≡◌, drop}
use Rattle.teco_session.specs.Kept.{history_of}
use Rattle.teco_journal.specs.Events.{events_of}
use Rattle.teco_replay.specs.Told.{AllHappen, after_events}
use Rattle.teco_replay.proofs.replaying.replay.Given as goal

abbrev pub invariant-loop-told : goal.invariant-loop-told
invariant-loop-told g l = record {
  rest : after_events (history_of l.session) (events_of (drop l.told-index l.records)) ≡ after_events (history_of l.initial.session) (events_of l.records);
  possible : AllHappen (history_of l.initial.session) (events_of l.records) → AllHappen (history_of l.session) (events_of (drop l.told-index l.records));
}
