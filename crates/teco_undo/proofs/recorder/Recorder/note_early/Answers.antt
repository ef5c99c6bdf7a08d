use Rattle.std.proofs.Common.{rules, ap, length, subst, sym, arith, ◌≡◌}
use Rattle.teco_store.specs.ChangeView.{small_turn}
use Rattle.teco_undo.proofs.Recordings.{goes_noted}
use Rattle.teco_undo.specs.Follows.{Recording}
use Rattle.teco_store.specs.State.{Full}
use Rattle.teco_store.specs.Turn.{FitsFull}
use Rattle.teco_undo.proofs.Rooms.{first_place, one_less_seen}
use Rattle.teco_undo.proofs.Slots.{turned_fits}
use Rattle.teco_undo.proofs.recorder.Recorder.note_early.Goals as goal

pub returns-clause-goes : goal.returns-clause-goes
returns-clause-goes c =
    goes_noted c.args.self.now c.self.inside.editor c.put_small-held.new.self c.self.inside.entry.items c.push.new.self.items c.self.inside.done _ _ (small_turn c.args.small)
    c.self.view_is c.put_small-held.ensures.editor (search rules) c.requires.fits c.requires.rises

pub push-requires-clause-spare : goal.push-requires-clause-spare
push-requires-clause-spare c = first_place c.self.inside.done c.args.self.now.spare c.self.inside.entry (ap (λ (r : Recording). r.spare) c.self.view_is) c.requires.spare

pub push-requires-clause-fits : goal.push-requires-clause-fits
push-requires-clause-fits c =
    let e = c.self.inside.editor in
    let fits = subst (λ (x : Full). FitsFull (small_turn c.args.small) x) (sym (ap (λ (r : Recording). r.full) c.self.view_is)) c.requires.fits in
    turned_fits e.room (length e.stored) c.args.small c.put_small-held.result e.body c.requires.here c.shown-shown.ensures.sound fits c.put_small-held.ensures.small

pub returns-clause-spare : goal.returns-clause-spare
returns-clause-spare c =
    let d : c.self.inside.done ≡ c.args.self.now.done = ap (λ (r : Recording). r.done) c.self.view_is in
    let early = c.requires.early in
    one_less_seen c.self.inside.done c.args.self.now.spare c.self.inside.entry c.push.new.self (ap (λ (r : Recording). r.spare) c.self.view_is) c.push.ensures.spare (λ late. absurd (omega arith))
