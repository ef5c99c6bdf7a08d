-- What is told of the file that keeps a session.
use Rattle.std.specs.Prelude.{ℕ, ◌==◌, ◌⊎◌, ◌&&◌, not, Bool, List, [], ◌++◌, Some, None, codes, decimal, nat_lt, if◌then◌else◌}
use Rattle.std.specs.String.{string_bytes}
use Rattle.teco_cli.specs.Conflict.{are_awaited}
use Rattle.teco_cli.specs.declared.line.Line.{Line}
use Rattle.teco_fs.specs.Reasons.{with_reason}
use Rattle.teco_fs.specs.Refusing.{Tells}
use Rattle.teco_fs.specs.declared.reason.Reason.{Reason}
use Rattle.teco_io.specs.Terminal.{Screen}
use Rattle.teco_recorder.specs.declared.fault.OpenFault.{OpenFault}
use Rattle.teco_recorder.specs.declared.fault.OpenFault.TheVariants.{NoFile, NoMemory, Version, Head, Changed, Settings, Replay, Input}
use Rattle.teco_replay.specs.declared.replaying.ReplayFault.{ReplayFault}
use Rattle.teco_replay.specs.declared.replaying.ReplayFault.TheVariants as replay
use Rattle.teco_serve.specs.Ending.{said}

-- the name of the file that keeps the session; nothing where none does
abbrev pub session_name : Line → List ℕ
session_name line = elim line.session [ Some name ↦ string_bytes name | None ↦ [] ]

-- The text is told; or that there was no memory for it.
abbrev pub TellsOrLacks : Screen → Screen → List ℕ → Type 0
TellsOrLacks old new text = Tells old new text ⊎ Tells old new (said (codes "no memory"))

-- a number of things, of which one is called so
abbrev pub count_words : ℕ → List ℕ → List ℕ
count_words n one = if n == 1 then codes "1 " ++ one else decimal n ++ codes " " ++ one ++ codes "s"

-- So many bytes behind the last whole line are cut off the file, if there are any.
abbrev pub cut_words : List ℕ → ℕ → List ℕ
cut_words file torn = if torn == 0 then []
    else codes "teco: " ++ file ++ codes ": a torn end is cut off, " ++ count_words torn (codes "byte") ++ codes "\n"

-- Strings that took more than ten million steps are run again, which takes a while.
abbrev pub again_words : List ℕ → ℕ → List ℕ
again_words file steps = if nat_lt 10000000 steps then codes "teco: " ++ file ++ codes ": runs " ++ decimal steps ++ codes " steps again\n" else []

-- One who types sees the star, and hears that a session goes on which has records.
abbrev pub is_told_of : Line → ℕ → Bool
is_told_of line records = (line.prompt && are_awaited line.commands) && not (records == 0)

abbrev pub goes_on_words : List ℕ → ℕ → List ℕ
goes_on_words file strings = codes "teco: " ++ file ++ codes ": goes on after " ++ count_words strings (codes "string") ++ codes "\n"

-- what is told before the first command: of the bytes that are cut off, and of the session with so many records and strings
abbrev pub opening_lines : Line → ℕ → ℕ → ℕ → List ℕ
opening_lines line torn records strings =
    cut_words (session_name line) torn ++ (if is_told_of line records then goes_on_words (session_name line) strings else [])

-- From some line on none could be written.
abbrev pub not_kept_line : Line → Reason → List ℕ
not_kept_line line reason = said (with_reason (codes "cannot write ") (session_name line) reason)

abbrev pub replay_line : List ℕ → ReplayFault → List ℕ
replay_line file replay.Memory = said (codes "no memory")
replay_line file replay.Terminal = said (codes "a string of " ++ file ++ codes " does not run as it ran")
replay_line file replay.Wrong = said (codes "a string of " ++ file ++ codes " does not run as it ran")

abbrev pub changed_line : List ℕ → ℕ → List ℕ
changed_line file number =
    codes "teco: line " ++ decimal number ++ codes " after the head of " ++ file ++ codes " is not as it was written\n"

abbrev pub input_line : List ℕ → List ℕ → List ℕ
input_line file input = codes "teco: " ++ input ++ codes " has changed since " ++ file ++ codes " was begun\n"

-- why the session of this input is not gone on with
abbrev pub fault_line : Line → List ℕ → OpenFault → List ℕ
fault_line line input (NoFile reason) = said (with_reason (codes "cannot open ") (session_name line) reason)
fault_line line input NoMemory = said (codes "no memory")
fault_line line input Version = said (session_name line ++ codes " is no session of this version")
fault_line line input Head = said (codes "the head of " ++ session_name line ++ codes " is not as it was written")
fault_line line input (Changed number) = changed_line (session_name line) number
fault_line line input Settings = said (session_name line ++ codes " was begun with another --undo or --page-lines, or without --wide")
fault_line line input (Replay fault) = replay_line (session_name line) fault
fault_line line input Input = input_line (session_name line) input
