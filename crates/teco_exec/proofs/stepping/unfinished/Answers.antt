use Rattle.std.proofs.Common.{arith, rules}
use Rattle.teco_exec.proofs.stepping.unfinished.Goals as goal

pub returns-in-Error-Tty : goal.returns-in-Error-Tty
returns-in-Error-Tty c = search rules

pub returns-in_default : goal.returns-in_default
returns-in_default c = rw c.in_default.is (grind arith)
