use Rattle.std.proofs.Common.{ℕ, List}
use Rattle.teco_lint.specs.Calls.{AllAreCalled}
use Rattle.teco_lint.proofs.calling.RegisterUses.note_registers.Given as goal

abbrev pub invariant-registers : goal.invariant-registers
invariant-registers l = (strings : List (List ℕ)) → AllAreCalled l.profile l.first strings l.fn.self.called → AllAreCalled l.profile l.first strings l.self.called
