use Rattle.std.proofs.Common.{List, map, refl, sym, ap, ◌∙◌, subst}
use Rattle.teco_session.specs.Kept.{history_of}
use Rattle.teco_journal.specs.declared.record.Record.{Record}
use Rattle.teco_journal.specs.declared.record.Record.TheVariants.{Undo}
use Rattle.teco_journal.specs.Events.{events_of, HaveRecords}
use Rattle.teco_replay.specs.Pruning.{run_event}
use Rattle.teco_replay.proofs.Records.{one_undo_more, one_more_fits}
use Rattle.teco_replay.proofs.pruning.records_of.Goals as goal

pub loop-preserved : goal.loop-preserved
loop-preserved c =
    let put = c.in_ok-push.ensures.items in
    record {
      told = ap events_of put ∙ one_undo_more c.loop.records.items Undo (map run_event (history_of c.args.session.now).notes) c.loop.counter c.loop.invariant.told refl;
      fit = subst (λ (xs : List Record). HaveRecords (events_of xs)) (sym {A = List Record} put) (one_more_fits c.loop.records.items Undo c.loop.invariant.fit tt);
    }
