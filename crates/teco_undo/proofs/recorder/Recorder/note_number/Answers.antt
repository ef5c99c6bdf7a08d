use Rattle.std.proofs.Common.{rules, ap, ◌≡◌}
use Rattle.teco_undo.proofs.Recordings.{goes_noted}
use Rattle.teco_undo.specs.Follows.{Recording}
use Rattle.teco_store.specs.Turn as turn
use Rattle.teco_undo.proofs.Rooms.{first_place}
use Rattle.teco_undo.proofs.recorder.Recorder.note_number.Goals as goal

pub returns-clause-goes : goal.returns-clause-goes
returns-clause-goes c =
    goes_noted c.args.self.now c.self.inside.editor c.put_number-there.new.self c.self.inside.entry.items c.push_number.new.self.items c.self.inside.done _ _ (turn.Number c.args.q c.args.number)
    c.self.view_is (search (rules, c.put_number-there.ensures.editor)) (search rules) c.requires.fits (search rules)

pub push_number-requires : goal.push_number-requires
push_number-requires c = first_place c.self.inside.done c.args.self.now.spare c.self.inside.entry (ap (λ (r : Recording). r.spare) c.self.view_is) c.requires.spare
