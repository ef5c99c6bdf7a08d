-- How a run ends: its status, and the line that it tells on standard error.
use Rattle.std.specs.Prelude.{◌≡◌, ◌⊎◌, ℕ, Bool, true, false, ◌<◌, ◌==◌, if◌then◌else◌, List, [], ◌++◌, map, Option, Some, None, codes}
use Rattle.std.specs.Fmt.{decimal}
use Rattle.std.specs.List.{slice_index_or}
use Rattle.std.specs.String.{string_bytes}
use Rattle.std.specs.declared.alloc.Global.{Global}
use Rattle.std.specs.declared.string.String.{String}
use Rattle.teco_fs.specs.Reasons.{with_reason}
use Rattle.teco_fs.specs.Refusing.{Tells}
use Rattle.teco_io.specs.Terminal.{Screen}
use Rattle.teco_debugger.specs.declared.ending.Ending.{Ending}
use Rattle.teco_debugger.specs.declared.ending.Ending.TheVariants.{Caret, Done, NoString, NoText, NoInput, NoMemory, ReadFault, ShowFault}
use Rattle.teco_messages.specs.Shown.{spot_shown}
use Rattle.teco_messages.specs.declared.spot.Spot.{Spot}
use Rattle.teco_debugger.specs.declared.line.DebuggerLine.{DebuggerLine}
use Rattle.teco_debugger.specs.declared.line.Origin.{Origin}
use Rattle.teco_debugger.specs.declared.line.Origin.TheVariants.{Sources, Bytes, Session}
use Rattle.teco_debugger.specs.declared.kept.StringFault.{StringFault}
use Rattle.teco_debugger.specs.declared.kept.StringFault.TheVariants as string
use Rattle.teco_debugger.specs.declared.reading.FileFault.{FileFault}
use Rattle.teco_debugger.specs.declared.reading.FileFault.TheVariants as file

-- 0 of a run that is done, 3 if the source is no command string, 1 where a file, memory or the terminal failed
abbrev pub status_of_ending : Ending → ℕ
status_of_ending Done = 0
status_of_ending (Caret number spot) = 3
status_of_ending _ = 1

-- a line that ends by LF
abbrev pub told_line : List ℕ → List ℕ
told_line words = codes "teco-debug: " ++ words ++ codes "\n"

-- what is told of a file that is not had
abbrev pub fault_words : List ℕ → FileFault → List ℕ
fault_words name (file.Unread reason) = with_reason (codes "cannot read ") name reason
fault_words name file.TooLarge = name ++ codes " is too large"
fault_words name file.Memory = name ++ codes ": no memory for it"

-- what is told of a source with a caret at this spot that stands before what it cannot stand before
abbrev pub caret_words : List ℕ → Spot → List ℕ
caret_words name spot = name ++ (codes ":" ++ (spot_shown spot ++ codes ": a caret before what it cannot stand before"))

-- what a source is called: by its file's name, or by the option that gives it
abbrev pub string_name : Origin → ℕ → List ℕ
string_name (Sources names word) number = slice_index_or (map string_bytes names.items) number (codes "--execute")
string_name (Bytes name) number = string_bytes name
string_name (Session name string) number = string_bytes name

-- what is told of a session's file with a line that was changed, and of one with so many strings
abbrev pub changed_words : List ℕ → ℕ → List ℕ
changed_words name line = codes "line " ++ (decimal line ++ (codes " after the head of " ++ (name ++ codes " is not as it was written")))

abbrev pub few_words : List ℕ → ℕ → List ℕ
few_words name strings = name ++ (codes " has no such string, but " ++ decimal strings)

-- what is told of a session's file that has no such string
abbrev pub string_words : List ℕ → StringFault → List ℕ
string_words name string.Version = name ++ codes " is no session of this version"
string_words name string.Head = codes "the head of " ++ (name ++ codes " is not as it was written")
string_words name (string.Changed line) = changed_words name line
string_words name string.Replay = codes "a string of " ++ (name ++ codes " does not run as it ran")
string_words name string.NoStrings = name ++ codes " has no string"
string_words name (string.NoString strings) = few_words name strings

abbrev pub bytes_word : ℕ → List ℕ
bytes_word torn = if torn == 1 then codes " byte" else codes " bytes"

-- the line of so many bytes of a line that has no end
abbrev pub torn_line : DebuggerLine → ℕ → List ℕ
torn_line line torn = told_line (string_name line.origin 0 ++ (codes ": a torn end is left out, " ++ (decimal torn ++ bytes_word torn)))

-- If there are any, that is told, or that there is no memory for the line.
abbrev pub TellsUnless : Bool → DebuggerLine → ℕ → Screen → Screen → Type 0
TellsUnless true line torn old new = new ≡ old
TellsUnless false line torn old new = Tells old new (torn_line line torn) ⊎ Tells old new (told_line (codes "no memory"))

abbrev pub TellsTorn : DebuggerLine → ℕ → Screen → Screen → Type 0
TellsTorn line torn old new = TellsUnless (torn == 0) line torn old new

-- the name of the input, or nothing if the line names none
abbrev pub input_name : Option (String Global) → List ℕ
input_name (Some name) = string_bytes name
input_name None = []

-- what is told: a line, or nothing
abbrev pub ending_line : DebuggerLine → Ending → List ℕ
ending_line line Done = []
ending_line line (NoText number fault) = told_line (fault_words (string_name line.origin number) fault)
ending_line line (Caret number spot) = told_line (caret_words (string_name line.origin number) spot)
ending_line line (NoInput fault) = told_line (fault_words (input_name line.input) fault)
ending_line line (NoString fault) = told_line (string_words (string_name line.origin 0) fault)
ending_line line NoMemory = told_line (codes "no memory")
ending_line line ReadFault = told_line (codes "cannot read commands")
ending_line line ShowFault = told_line (codes "cannot show")

-- The status is that of the ending, and its line is told on standard error; or that there is no memory for the line,
-- where there is one.
pub record TellsEnding (line : DebuggerLine) (ending : Ending) (old new : Screen) (status : ℕ) : Type 0 where
  pub status_is : status ≡ status_of_ending ending
  pub told : Tells old new (ending_line line ending)
      ⊎ ((0 < status_of_ending ending) × Tells old new (told_line (codes "no memory")))
