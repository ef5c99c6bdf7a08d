use Rattle.std.proofs.Common.{arith, refl}
use Rattle.std.proofs.lemmas.Grind.{common_steps}
use Rattle.teco_undo.proofs.Recordings.{goes_once, keeps_then}
use Rattle.teco_undo.proofs.recorder.recording.RecorderDesk.write_out.Goals as goal

pub returns-clause-ok : goal.returns-clause-ok
returns-clause-ok c = grind (arith, common_steps)

pub returns-clause-follows : goal.returns-clause-follows
returns-clause-follows c =
    goes_once c.args.self.now c.store_part.new.self c.note_apart.new.self 0 0
    (keeps_then c.args.self.now c.reserve.new.self c.store_part.new.self c.reserve.ensures.keeps c.store_part.ensures.keeps) c.note_apart.ensures.goes refl
