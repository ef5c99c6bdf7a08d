use Rattle.std.proofs.Common.{rules}
use Rattle.teco_debugger.proofs.serving.read_line.Goals as goal

pub returns-in-Ok : goal.returns-in-Ok
returns-in-Ok g c = search rules
