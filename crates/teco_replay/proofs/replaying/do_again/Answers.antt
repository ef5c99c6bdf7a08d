use Rattle.std.proofs.Common.{◌≡◌, sym, subst}
use Rattle.teco_session.specs.Kept.{history_of}
use Rattle.teco_journal.specs.declared.record.Record.{Record}
use Rattle.teco_journal.specs.Events.{event_of}
use Rattle.teco_replay.specs.Told.{after_event}
use Rattle.teco_replay.proofs.replaying.do_again.Goals as goal

pub returns-in-Ok-clause-told : goal.returns-in-Ok-clause-told
returns-in-Ok-clause-told g c =
    subst (λ (r : Record). history_of c.undo.new.self ≡ after_event (history_of c.args.session.now) (event_of r)) (sym c.in-Undo.is) c.in-Ok.ensures.history

pub returns-in-Ok-redo-clause-told : goal.returns-in-Ok-redo-clause-told
returns-in-Ok-redo-clause-told g c =
    subst (λ (r : Record). history_of c.redo.new.self ≡ after_event (history_of c.args.session.now) (event_of r)) (sym c.in-Redo.is) c.in-Ok-redo.ensures.history

pub returns-in-Ok-rewind-clause-told : goal.returns-in-Ok-rewind-clause-told
returns-in-Ok-rewind-clause-told g c =
    subst (λ (r : Record). history_of c.rewind.new.self ≡ after_event (history_of c.args.session.now) (event_of r)) (sym c.in-Rewind.is) c.in-Ok-rewind.ensures.history
