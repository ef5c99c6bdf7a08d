use Rattle.std.proofs.Common.{arith}
use Rattle.teco_exec.proofs.stepping.called_by.Goals as goal
use Rattle.teco_exec.proofs.stepping.called_by.Goals.{in_default-via-in-Item+in-Register+in_default, in_default-via-in-Item+in_default, in_default-via-in_default}

pub returns-in_default : goal.returns-in_default
returns-in_default c = elim c.in_default.branch [
  | in_default-via-in-Item+in-Register+in_default w ↦ rw w.in_default.is (grind arith)
  | in_default-via-in-Item+in_default w ↦ rw w.in_default.is (grind arith)
  | in_default-via-in_default w ↦ grind arith
]
