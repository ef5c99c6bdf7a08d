use Rattle.teco_lint.specs.Calls.{AreCalledOver}
use Rattle.teco_lint.proofs.calling.registers_in.Given as goal

abbrev pub invariant-passes : goal.invariant-passes
invariant-passes l = AreCalledOver l.profile l.first l.registers.called l.commands
