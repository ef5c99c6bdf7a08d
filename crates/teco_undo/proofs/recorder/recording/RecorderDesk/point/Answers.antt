use Rattle.teco_undo.specs.Follows.{follows_eases}
use Rattle.teco_undo.proofs.recorder.recording.RecorderDesk.point.Goals as goal

pub returns-then-place-pointer-clause-follows : goal.returns-then-place-pointer-clause-follows
returns-then-place-pointer-clause-follows c = follows_eases c.args.self.now
