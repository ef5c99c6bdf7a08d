use Rattle.std.proofs.Common.{rules}
use Rattle.teco_undo.proofs.recorder.Recorder.begin.Goals as goal

pub returns-clause-full : goal.returns-clause-full
returns-clause-full c = search rules
