use Rattle.teco_undo.proofs.Recordings.{keeps_then}
use Rattle.teco_undo.proofs.recorder.Recorder.find_room.Goals as goal

pub returns-clause-keeps : goal.returns-clause-keeps
returns-clause-keeps c = keeps_then c.args.self.now c.reserve.new.self c.reserve_text.new.self c.reserve.ensures.keeps c.reserve_text.ensures.keeps
