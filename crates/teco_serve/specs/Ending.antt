-- How the program ends: its status, and what it prints on standard error.
use Rattle.std.specs.Prelude.{ℕ, List, [], ◌++◌, Some, None, codes, unwrap_or, if◌then◌else◌}
use Rattle.std.specs.String.{string_bytes}
use Rattle.teco_io.specs.declared.input.InputFault.{InputFault}
use Rattle.teco_io.specs.declared.input.InputFault.TheVariants as input
use Rattle.teco_fs.specs.Unkept.{is_text, unkept_words}
use Rattle.teco_fs.specs.Reasons.{with_reason}
use Rattle.teco_fs.specs.declared.reason.Reason.TheVariants.{ReadFailed}
use Rattle.teco_cli.specs.Conflict.{has_more}
use Rattle.teco_cli.specs.Options.{suffix_of}
use Rattle.teco_cli.specs.StreamNames.{is_standard_input}
use Rattle.teco_cli.specs.declared.line.Commands.{Commands}
use Rattle.teco_cli.specs.declared.line.Commands.TheVariants.{StandardInput, Sources, Pages, Bytes}
use Rattle.teco_cli.specs.declared.line.Line.{Line}
use Rattle.teco_serve.specs.declared.fate.Fate.{Fate}
use Rattle.teco_serve.specs.declared.fate.Fate.TheVariants.{NoCommands, NoInput, NotRegular, LargeInput, NoMemory, NoOutput, NoBackup}
use Rattle.teco_serve.specs.declared.fate.Fate.TheVariants.{Changed, Unchanged, Lacking}
use Rattle.teco_serve.specs.declared.fate.Fate.TheVariants.{Ended}
use Rattle.teco_serve.specs.declared.served.Served.TheVariants as served

-- The place of an output beside its input: standard output if the input comes from standard input, else the input's name followed
-- by .out.
abbrev pub output_beside : List ℕ → List ℕ
output_beside input = if is_standard_input input then codes "-" else input ++ codes ".out"

-- Where the output goes if the line names none, by where the commands come from: strings for every page make a filter, which
-- writes to standard output.
abbrev pub output_by : Commands → List ℕ → List ℕ
output_by (Pages word) input = codes "-"
output_by (Bytes name) input = output_beside input
output_by (Sources names word) input = output_beside input
output_by StandardInput input = output_beside input

-- The name of the output of this input: the input's own if it is edited in place, else the one that the line
-- names.
abbrev pub output_of : Line → List ℕ → List ℕ
output_of line input = if line.in_place then input
    else (elim line.output [ Some name ↦ string_bytes name | None ↦ output_by line.commands input ])

-- the name under which the old bytes of this input are kept
abbrev pub backup_of : Line → List ℕ → List ℕ
backup_of line input = input ++ unwrap_or (suffix_of line) []

-- If the line has several inputs, each line that is told names its file.
abbrev pub about : Line → List ℕ → List ℕ → List ℕ
about line input words = if has_more line then input ++ codes ": " ++ words else words

-- how the program ends where the input is not read
abbrev pub fate_without_input : InputFault → Fate
fate_without_input input.Read = NoInput ReadFailed
fate_without_input input.TooLarge = LargeInput
fate_without_input input.Memory = NoMemory

-- the name of the file that the commands are read from as they are; nothing where they come from elsewhere
abbrev pub commands_name : Line → List ℕ
commands_name line =
    elim line.commands [ Bytes name ↦ string_bytes name | Sources names word ↦ [] | Pages word ↦ [] | StandardInput ↦ [] ]

abbrev pub status_of : Fate → ℕ
status_of (NoCommands reason) = 1
status_of (NoInput reason) = 1
status_of NotRegular = 1
status_of LargeInput = 1
status_of NoMemory = 1
status_of (NoOutput reason) = 1
status_of (NoBackup reason) = 1
status_of Changed = 1
status_of Unchanged = 0
status_of (Lacking unkept) = if is_text unkept then 1 else 0
status_of (Ended served.Exit) = 0
status_of (Ended served.EndOfCommands) = 2
status_of (Ended served.ReadFault) = 1
status_of (Ended served.ShowFault) = 1
status_of (Ended served.NoMemory) = 1

-- a line that ends by LF
abbrev pub said : List ℕ → List ℕ
said words = codes "teco: " ++ words ++ codes "\n"

-- the line of a fate, for this input of the line
abbrev pub text_of : Line → List ℕ → Fate → List ℕ
text_of line input (NoCommands reason) = said (with_reason (codes "cannot read ") (commands_name line) reason)
text_of line input (NoInput reason) = said (with_reason (codes "cannot read ") input reason)
text_of line input NotRegular = said (input ++ codes " is not a regular file")
text_of line input LargeInput = said (input ++ codes " is too large")
text_of line input NoMemory = said (about line input (codes "no memory"))
text_of line input (NoOutput reason) = said (with_reason (codes "cannot write ") (output_of line input) reason)
text_of line input (NoBackup reason) = said (input ++ with_reason (codes ": no backup ") (backup_of line input) reason)
text_of line input Changed = said (input ++ codes " has changed")
text_of line input Unchanged = []
text_of line input (Lacking unkept) = said (output_of line input ++ codes ": " ++ unkept_words unkept)
text_of line input (Ended served.Exit) = []
text_of line input (Ended served.EndOfCommands) = []
text_of line input (Ended served.ReadFault) = said (about line input (codes "cannot read commands"))
text_of line input (Ended served.ShowFault) = said (about line input (codes "cannot show"))
text_of line input (Ended served.NoMemory) = said (about line input (codes "no memory"))
