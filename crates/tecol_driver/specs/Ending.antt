-- How a run ends: its status, and the line that it prints on standard error.
use Rattle.std.specs.Prelude.{ℕ, List, [], ◌++◌, codes, min, length, Bool, true, Option, Some, None, is_some, if◌then◌else◌}
use Rattle.std.specs.String.{string_bytes}
use Rattle.teco_io.specs.declared.input.InputFault.{InputFault}
use Rattle.teco_io.specs.declared.input.InputFault.TheVariants as input
use Rattle.teco_fs.specs.Unkept.{is_text, unkept_words}
use Rattle.teco_fs.specs.declared.unkept.Unkept.{Unkept}
use Rattle.teco_fs.specs.Reasons.{with_reason}
use Rattle.teco_fs.specs.declared.reason.Reason.TheVariants.{ReadFailed}
use Rattle.teco_messages.specs.Shown.{spot_shown}
use Rattle.teco_messages.specs.Spot.{spot_of}
use Rattle.teco_messages.specs.declared.spot.Spot.{Spot}
use Rattle.tecol_driver.specs.declared.fate.TecolFate.{TecolFate}
use Rattle.tecol_driver.specs.declared.fate.TecolFate.TheVariants.{Done, Unchecked, Faulty, Unreadable, NoInput, LargeInput, NoMemory, NoOutput}
use Rattle.tecol_driver.specs.declared.line.TecolLine.{TecolLine}

-- the status of a run whose output is written: this one, or 1 if text is lost with what could not be kept
abbrev pub status_put : ℕ → Option Unkept → ℕ
status_put status None = status
status_put status (Some unkept) = if is_text unkept then 1 else status

-- 2 where a fault was found or a source can't be read, 1 where anything failed
abbrev pub status_of : TecolFate → ℕ
status_of (Done unkept) = status_put 0 unkept
status_of (Unchecked unkept) = status_put 0 unkept
status_of (Faulty unkept) = status_put 2 unkept
status_of (Unreadable spot) = 2
status_of fate = 1

-- how a run ends where the input is not read
abbrev pub fate_without_input : InputFault → TecolFate
fate_without_input input.Read = NoInput ReadFailed
fate_without_input input.TooLarge = LargeInput
fate_without_input input.Memory = NoMemory

-- the line and the column of a place of a source, as far as it goes
abbrev pub spot_in : List ℕ → ℕ → Spot
spot_in source at = spot_of source (min at (length source))

-- a line that ends by LF
abbrev pub said : List ℕ → List ℕ
said words = codes "tecol: " ++ words ++ codes "\n"

-- the line of a caret at this place that cannot be read
abbrev pub unreadable : List ℕ → Spot → List ℕ
unreadable input spot = input ++ codes ":" ++ spot_shown spot
    ++ codes ": a caret before what it cannot stand before" ++ codes "\n"

-- what is told of an output that is written: what could not be kept, or nothing
abbrev pub kept_text : TecolLine → Option Unkept → List ℕ
kept_text line None = []
kept_text line (Some unkept) = said (string_bytes line.output ++ codes ": " ++ unkept_words unkept)

-- what is told of a fate: a line, or nothing
abbrev pub text_of : TecolLine → TecolFate → List ℕ
text_of line (Done unkept) = kept_text line unkept
text_of line (Unchecked unkept) = kept_text line unkept
text_of line (Faulty unkept) = kept_text line unkept
text_of line (Unreadable spot) = unreadable (string_bytes line.input) spot
text_of line (NoInput reason) = said (with_reason (codes "cannot read ") (string_bytes line.input) reason)
text_of line LargeInput = said (string_bytes line.input ++ codes " is too large")
text_of line NoMemory = said (codes "no memory")
text_of line (NoOutput reason) = said (with_reason (codes "cannot write ") (string_bytes line.output) reason)

-- A line is told of it.
abbrev pub is_told : TecolFate → Bool
is_told (Done unkept) = is_some unkept
is_told (Unchecked unkept) = is_some unkept
is_told (Faulty unkept) = is_some unkept
is_told fate = true
