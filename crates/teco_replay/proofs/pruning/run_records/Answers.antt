use Rattle.std.proofs.Common.{◌<◌, List, length, sym, ap, ◌∙◌, subst, arith}
use Rattle.teco_session.specs.History.{NotedString}
use Rattle.teco_session.specs.Kept.{history_of}
use Rattle.teco_journal.specs.declared.record.Record.{Record}
use Rattle.teco_journal.specs.Events.{events_of, HaveRecords}
use Rattle.teco_replay.proofs.Records.{one_more_told, one_more_fits}
use Rattle.teco_replay.proofs.pruning.run_records.Goals as goal

pub loop-i-preserved : goal.loop-i-preserved
loop-i-preserved c =
    let notes : List NotedString = (history_of c.args.session.now).notes in
    let count = c.strings-i-end.ensures.history in
    let less : c.loop-i.i < length notes = omega (arith, count, c.loop-i-test.true) in
    let put = c.in_ok-push.ensures.items in
    let one = c.in_ok-run_record.field-0 in
    record {
      told = ap events_of put ∙ one_more_told c.loop-i.records.items one notes c.loop-i.i _ c.loop-i.invariant.told c.in_ok-run_record.ensures.told less;
      fit = subst (λ (xs : List Record). HaveRecords (events_of xs)) (sym {A = List Record} put) (one_more_fits c.loop-i.records.items one c.loop-i.invariant.fit c.in_ok-run_record.ensures.fits);
    }
