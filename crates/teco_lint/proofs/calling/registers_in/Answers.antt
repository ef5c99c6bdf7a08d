use Rattle.teco_lint.specs.Strings.{strings_of}
use Rattle.teco_lint.proofs.Noted.{first_noted, again_noted}
use Rattle.teco_lint.proofs.calling.registers_in.Goals as goal

pub passes-init : goal.passes-init
passes-init c = first_noted c.args.profile c.args.first.now 36 c.args.commands.now c.note_strings.new.self.called c.note_strings.ensures

pub passes-preserved : goal.passes-preserved
passes-preserved c =
    again_noted c.args.profile c.args.first.now c.args.commands.now c.passes.registers.called c.note_registers.new.self.called c.note_strings-in-passes.new.self.called
    c.passes.invariant (c.note_registers.ensures (strings_of c.args.commands.now)) c.note_strings-in-passes.ensures

pub returns-then-eq : goal.returns-then-eq
returns-then-eq c =
    again_noted c.args.profile c.args.first.now c.args.commands.now c.passes.registers.called c.note_registers.new.self.called c.note_strings-in-passes.new.self.called
    c.passes.invariant (c.note_registers.ensures (strings_of c.args.commands.now)) c.note_strings-in-passes.ensures
