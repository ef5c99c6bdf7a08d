use Rattle.std.proofs.Common.{◌≡◌, take, map}
use Rattle.teco_session.specs.Kept.{history_of}
use Rattle.teco_journal.specs.Events.{events_of, HaveRecords}
use Rattle.teco_replay.specs.Pruning.{run_event}
use Rattle.teco_replay.proofs.pruning.run_records.Given as goal

abbrev pub invariant-loop-i : goal.invariant-loop-i
invariant-loop-i l = record {
  told : events_of l.records.items ≡ map run_event (take l.i (history_of l.session).notes);
  fit : HaveRecords (events_of l.records.items);
}
