use Rattle.std.proofs.Common.{arith}
use Rattle.teco_undo.proofs.recorder.Recorder.find_held.Goals as goal

pub returns-clause-held : goal.returns-clause-held
returns-clause-held c = let found = c.in_ok-held.ensures.ok in (found.0, omega (arith, found.1), c.if-bytes-le-SHORT_LIMIT.false)
