use Rattle.teco_undo.proofs.Recordings.{keeps_extended}
use Rattle.teco_undo.proofs.recorder.Recorder.store_shared.Goals as goal

pub returns-clause-keeps : goal.returns-clause-keeps
returns-clause-keeps c = keeps_extended c.args.self.now c.self.inside.editor c.store_shared.new.self c.self.inside.entry.items c.self.inside.done _ _ c.self.view_is c.store_shared.ensures.extends
