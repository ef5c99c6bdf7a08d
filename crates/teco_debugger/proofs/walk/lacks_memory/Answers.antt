use Rattle.std.proofs.Common.{arith}
use Rattle.teco_debugger.proofs.walk.lacks_memory.Goals as goal

pub returns-in_default : goal.returns-in_default
returns-in_default c = rw c.in_default.is (grind arith)

pub returns-in_default-2 : goal.returns-in_default-2
returns-in_default-2 c = rw c.in_default.is (grind arith)
