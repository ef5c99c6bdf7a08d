-- What the words of a program are to its parser.
use Rattle.std.specs.Prelude.{◌≡◌, ◌⊎◌, ⊤, List, false, true, map}
use Rattle.clap.specs.Words.{App, IsAmong, Text, fault_of, new_app, takes}
use Rattle.clap.specs.declared.error.kind.ErrorKind.{ErrorKind}
use Rattle.clap.specs.declared.error.kind.ErrorKind.TheVariants as kind
use Rattle.clap.specs.Simple.{on_top}
use Rattle.teco_cli.specs.OptionTable.{rule_by, with_rules}
use Rattle.teco_cli.specs.Refusals.{IsToldAs}
use Rattle.teco_cli.specs.declared.fault.LineFault.{LineFault}
use Rattle.teco_cli.specs.declared.fault.LineFault.TheVariants.{NoMemory, Refused}
use Rattle.teco_cli.specs.declared.options.OptionRow.{OptionRow}
use Rattle.teco_cli.specs.declared.parsing.Program.{Program}

-- The command of a program without its arguments. It tells its version, and so has the parser's argument --version. Where an
-- option that has one value or none is given again, the last one stands.
abbrev pub program_app : Text → App
program_app name = on_top (λ shape. record shape { has_version = true; args_override_self = true }) (new_app name)

-- The command that the words of a program are read by: the parser's rules for a command with an argument for each row and no
-- others of its own.
abbrev pub app_by : Program → List OptionRow → App
app_by program rows = with_rules (program_app program.name.now) (map rule_by rows)

-- The kind of an error of the parser: it wants memory; or these words have an error of that kind, and it does not take them.
abbrev pub IsErrorOf : App → List Text → ErrorKind → Type 0
IsErrorOf app words error = (error ≡ kind.OutOfMemory) ⊎ ((takes app words ≡ false) × IsAmong error (fault_of app words))

-- Why the words were not read: memory was refused, or the line is refused for such an error, and told as what that is.
abbrev pub IsUnparsed : App → List Text → LineFault → Type 0
IsUnparsed app words NoMemory = ⊤
IsUnparsed app words (Refused refusal) = (error : ErrorKind) × IsErrorOf app words error × IsToldAs refusal.refused_as error
