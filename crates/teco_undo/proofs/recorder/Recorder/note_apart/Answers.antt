use Rattle.std.proofs.Common.{rules, ap}
use Rattle.teco_store.specs.ChangeView.{turn_of}
use Rattle.teco_undo.proofs.Recordings.{goes_noted}
use Rattle.teco_undo.specs.Follows.{Recording}
use Rattle.teco_undo.proofs.Rooms.{first_place, one_less_seen}
use Rattle.teco_undo.proofs.recorder.Recorder.note_apart.Goals as goal

pub returns-clause-goes : goal.returns-clause-goes
returns-clause-goes c =
    goes_noted c.args.self.now c.self.inside.editor c.put-held.new.self c.self.inside.entry.items c.push_apart.new.self.items c.self.inside.done _ _ (turn_of c.args.kind)
    c.self.view_is c.put-held.ensures.editor (search rules) c.requires.fits c.requires.rises

pub push_apart-requires-clause-spare : goal.push_apart-requires-clause-spare
push_apart-requires-clause-spare c = first_place c.self.inside.done c.args.self.now.spare c.self.inside.entry (ap (λ (r : Recording). r.spare) c.self.view_is) c.requires.spare

pub returns-clause-spare : goal.returns-clause-spare
returns-clause-spare c =
    one_less_seen c.self.inside.done c.args.self.now.spare c.self.inside.entry c.push_apart.new.self (ap (λ (r : Recording). r.spare) c.self.view_is) c.push_apart.ensures.spare (λ le. c.push_apart.ensures.apart)
