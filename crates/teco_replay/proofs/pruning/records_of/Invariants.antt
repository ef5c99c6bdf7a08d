use Rattle.std.proofs.Common.{◌≡◌, ◌++◌, map, replicate}
use Rattle.teco_session.specs.Kept.{history_of}
use Rattle.teco_journal.specs.Events.{events_of, HaveRecords, undid}
use Rattle.teco_replay.specs.Pruning.{run_event}
use Rattle.teco_replay.proofs.pruning.records_of.Given as goal

abbrev pub invariant-loop : goal.invariant-loop
invariant-loop l = record {
  told : events_of l.records.items ≡ map run_event (history_of l.session).notes ++ replicate l.counter undid;
  fit : HaveRecords (events_of l.records.items);
}
