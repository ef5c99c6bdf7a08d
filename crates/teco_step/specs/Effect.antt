-- One step of a token.
use Rattle.std.specs.Prelude.{ℕ, List, []}
use Rattle.teco_scan.specs.declared.command.Bare.{Bare}
use Rattle.teco_scan.specs.declared.command.Bare.TheVariants as bare
use Rattle.teco_scan.specs.declared.command.Command.{Command}
use Rattle.teco_scan.specs.declared.command.Command.TheVariants as command
use Rattle.teco_scan.specs.declared.command.RegisterCommand.{RegisterCommand}
use Rattle.teco_scan.specs.declared.command.RegisterCommand.TheVariants as register_command
use Rattle.teco_scan.specs.declared.command.TextCommand.{TextCommand}
use Rattle.teco_scan.specs.declared.command.TextCommand.TheVariants as text_command
use Rattle.teco_scan.specs.Scan.{Item}
use Rattle.teco_scan.specs.Scan as token
use Rattle.teco_core.specs.Arguments.{Arguments}
use Rattle.teco_store.specs.State.{State}
use Rattle.teco_step.specs.declared.next.Setting.{Setting}
use Rattle.teco_step.specs.declared.typing.Base.TheVariants.{Decimal, Octal, Hexadecimal}
use Rattle.teco_step.specs.Step.{Step, Action, goes, steers, done_by, settled}
use Rattle.teco_step.specs.Values.{number, give_quantity, build, give_byte, at_level}
use Rattle.teco_step.specs.Editing.{jump, forward, back, to_line, delete, kill, insert, insert_tab}
use Rattle.teco_step.specs.Typing.{type_out, view, type_text, type_byte, print}
use Rattle.teco_step.specs.Registers.{register_value, set_number, increment, set_text, extract, push, pop, get}
use Rattle.teco_step.specs.Searching.{search_or_compare, search_and_replace, search_and_kill, replace}
use Rattle.teco_step.specs.Control.{leave_or_not, jump_to, run_register}
use Rattle.teco_step.specs.Pages.{next_page, turn_pages, with_page_read, with_page_turned, write_page, exit}
use Rattle.teco_step.specs.PageSearching.{search_pages}
use Rattle.teco_step.specs.Case.{set_case}

-- Commands without an operand.
abbrev pub command_effect : Command → Setting → Action
command_effect command.Jump w = goes jump
command_effect command.Forward w = goes forward
command_effect command.Back w = goes back
command_effect command.Line w = goes to_line
command_effect command.Delete w = goes delete
command_effect command.Kill w = goes kill
command_effect command.TypeOut w = goes type_out
command_effect command.View w = goes view
command_effect command.TypeByte w = goes type_byte
command_effect command.Print w = goes (print Decimal w.modifiers)
command_effect command.PrintOctal w = goes (print Octal w.modifiers)
command_effect command.PrintHexadecimal w = goes (print Hexadecimal w.modifiers)
command_effect command.Leave w = steers (leave_or_not w.modifiers w.inside)
command_effect command.NextPage w = goes (next_page w.modifiers)
command_effect command.TurnPages w = steers (turn_pages w.modifiers w.work)
command_effect command.WritePage w = goes write_page
command_effect command.Exit w = steers exit
command_effect command.CaseMode w = goes set_case

abbrev pub bare_effect : Bare → Setting → Action
bare_effect (bare.Quantity q) w = goes (give_quantity q)
bare_effect (bare.Arithmetic b) w = goes (build b)
bare_effect (bare.Command c) w = command_effect c w
bare_effect (bare.Level l) w = goes (at_level w.modifiers l)

-- Commands on a register.
abbrev pub register_effect : RegisterCommand → ℕ → Setting → Action
register_effect register_command.Number q w = goes (register_value w.modifiers q)
register_effect register_command.Increment q w = goes (increment q)
register_effect register_command.Set q w = goes (set_number q)
register_effect register_command.Extract q w = goes (extract w.modifiers q)
register_effect register_command.Push q w = goes (push q)
register_effect register_command.Pop q w = goes (pop q)
register_effect register_command.Get q w = goes (get w.modifiers q)
register_effect register_command.Macro q w = steers (run_register q)

abbrev pub text_effect : TextCommand → List ℕ → Setting → Action
text_effect text_command.Insert text w = goes (insert text)
text_effect text_command.InsertTab text w = goes (insert_tab text)
text_effect text_command.TypeOut text w = goes (type_text text)
text_effect text_command.Go text w = steers (jump_to text)
text_effect text_command.Search text w = steers (search_or_compare text w)
text_effect text_command.SearchPages text w = steers (search_pages with_page_turned text w)
text_effect text_command.SearchPagesQuietly text w = steers (search_pages with_page_read text w)
text_effect text_command.FindAndDelete text w = steers (search_and_replace text [] w)
text_effect text_command.FindAndKill text w = steers (search_and_kill text w)

abbrev pub item_effect : Item → Setting → Action
item_effect (token.digits ds) w = goes (number ds)
item_effect (token.bare b) w = bare_effect b w
item_effect (token.register c q) w = register_effect c q w
item_effect (token.text c text) w = text_effect c text w
item_effect (token.set_text q text) w = goes (set_text w.modifiers q text)
item_effect (token.replace old new) w = steers (replace old new w)
item_effect (token.byte b) w = goes (give_byte b)

-- One step of a token, its first or a further one.
unfoldable pub effect : Item → Setting → State → Arguments → Step
effect i w s a = settled s a (done_by (item_effect i w) s a)
