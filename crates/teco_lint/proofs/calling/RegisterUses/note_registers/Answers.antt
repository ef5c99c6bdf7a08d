use Rattle.teco_lint.proofs.calling.RegisterUses.note_registers.Goals as goal

pub registers-init : goal.registers-init
registers-init c = λ strings are. are

pub registers-preserved : goal.registers-preserved
registers-preserved c = λ strings are. c.note_register.ensures strings (c.registers.invariant strings are)
