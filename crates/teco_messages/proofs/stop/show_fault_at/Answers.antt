use Rattle.std.proofs.Common.{arith}
use Rattle.std.proofs.lemmas.Grind.{common_steps}
use Rattle.teco_messages.proofs.stop.show_fault_at.Goals as goal

pub returns-then-fault-at : goal.returns-then-fault-at
returns-then-fault-at c = grind (arith, common_steps)

pub returns-else-fault-at : goal.returns-else-fault-at
returns-else-fault-at c = grind (arith, common_steps)
