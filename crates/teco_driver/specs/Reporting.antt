-- A tool's manner: what is told on standard error of each end that is no written or unchanged file.
use Rattle.std.specs.Prelude.{ℕ, ◌+◌, ◌-◌, ◌^◌, ◌==◌, ◌||◌, ◌&&◌, not, List, [], ◌++◌, length, map, min, codes, is_some, Option, Some, None, Bool, true, false, slice_get, if◌then◌else◌}
use Rattle.std.specs.Fmt.{decimal}
use Rattle.std.specs.List.{list_all, slice_index_or}
use Rattle.std.specs.String.{string_bytes}
use Rattle.teco_core.specs.Ascii.{is_filler}
use Rattle.teco_core.specs.Register.{Content}
use Rattle.teco_core.specs.declared.code.Code.{Code}
use Rattle.teco_cli.specs.Conflict.{are_awaited}
use Rattle.teco_cli.specs.declared.line.Commands.TheVariants.{StandardInput, Sources, Pages, Bytes}
use Rattle.teco_cli.specs.declared.line.Line.{Line}
use Rattle.teco_exec.specs.declared.place.Call.{Call}
use Rattle.teco_exec.specs.declared.place.Place.{Place}
use Rattle.teco_messages.specs.Placed.{standing_shown}
use Rattle.teco_messages.specs.Shown.{place_shown, reason_shown}
use Rattle.teco_serve.specs.Ending.{output_of}
use Rattle.teco_serve.specs.Explaining.{anew, counted, end_line, left_line, limits_after, move_lines, next_number, place_had, run_lines}
use Rattle.teco_serve.specs.Heard.{Heard}
use Rattle.teco_serve.specs.Heard.Heard.{Ran, Moved, Left, Finished, Did}
use Rattle.teco_serve.specs.declared.alarm.Bounds.{Bounds}
use Rattle.teco_serve.specs.declared.fate.Fate.{Fate}
use Rattle.teco_serve.specs.declared.fate.Fate.TheVariants.{Ended}
use Rattle.teco_serve.specs.declared.served.Served.TheVariants as served
use Rattle.teco_session.specs.Answers.{answer_code, outcome_of}
use Rattle.teco_session.specs.Kept.{KeptSession}
use Rattle.teco_session.specs.declared.request.Answered.{Answered}
use Rattle.teco_store.specs.State.{state_of}
use Rattle.teco_driver.specs.Advice.{advice_of}
use Rattle.teco_driver.specs.Places.{place_told}
use Rattle.teco_driver.specs.declared.reporting.Reporting.{Reporting}
use Rattle.teco_driver.specs.declared.sources.ReadSource.{ReadSource}

-- Commands that an option gives are run in a tool's manner: codes are not shown among what the commands type. Its lines are told unless the
-- line asks for quiet.
abbrev pub is_reported : Line → Bool
is_reported line = not (are_awaited line.commands) && not line.quiet

-- Only a line that is reported, or asks to be explained, has something told on the notes.
abbrev pub has_notes : Line → Bool
has_notes line = line.explain || is_reported line

-- each line names its input
abbrev pub of_input : List ℕ → List ℕ
of_input input = codes "teco: " ++ input ++ codes ": "

-- the input of this number, in the order of the line
abbrev pub input_named : Line → ℕ → List ℕ
input_named line n = if n == 0 then string_bytes line.input else slice_index_or (map string_bytes line.more.items) (n - 1) []

-- the place of a byte among all commands, which stops at the highest number
abbrev pub place_in_stream : ℕ → ℕ → ℕ
place_in_stream begins at = min (begins + at) (2 ^ 64 - 1)

-- the string of a file that is no source, and the place in it; with `--explain` these come next
abbrev pub string_told : Bool → ℕ → List ℕ → ℕ → List ℕ
string_told true n text at = []
string_told false n text at = codes ": string " ++ decimal n ++ codes ", " ++ place_shown text at

-- where an error is that comes at this place of a text which begins after so many bytes of all commands
abbrev pub where_told : Line → List ReadSource → ℕ → List ℕ → ℕ → ℕ → List ℕ
where_told line parts n text begins at = elim line.commands [
  | Bytes name ↦ string_bytes name ++ string_told line.explain n text at
  | Sources names word ↦ place_told line.commands parts 0 (place_in_stream begins at)
  | Pages word ↦ place_told line.commands parts 0 (place_in_stream begins at)
  | StandardInput ↦ place_told line.commands parts 0 (place_in_stream begins at)
]

-- the input and the place of an error
abbrev pub of_error : Line → List ReadSource → Reporting → List ℕ → ℕ → ℕ → List ℕ
of_error line parts r text begins at =
    of_input (input_named line r.inputs) ++ where_told line parts (next_number r.telling) text begins at

abbrev pub call_place_or : ℕ → Option Call → ℕ
call_place_or at None = at
call_place_or at (Some call) = call.at

-- where a string stood, or its first call that is open: at its beginning, if that isn't known
abbrev pub outer_place : Option Place → ℕ
outer_place None = 0
outer_place (Some place) = call_place_or place.at (slice_get place.calls.items (length place.calls.items - 1))

abbrev pub standing_in : Option Call → List ℕ → List ℕ
standing_in None standing = []
standing_in (Some call) standing = codes " in " ++ standing

-- the register whose text ran, if one was called, and the place there
abbrev pub call_reported : Option Place → List Content → List ℕ → List ℕ
call_reported None registers text = []
call_reported (Some place) registers text =
    standing_in (slice_get place.calls.items 0) (standing_shown place registers text)

-- where in a called text the string stopped, and why; and what is told besides
abbrev pub reason_told : List ℕ → List ℕ → Answered → Bounds → KeptSession → Code → List ℕ
reason_told advice text answered bounds session code =
    call_reported (place_had answered.place) (state_of session.editor).registers text ++ codes ": "
    ++ reason_shown (Some (limits_after bounds (outcome_of answered.answer))) code ++ advice ++ codes "\n"

-- A string that stopped by a code is told of: where, and why. With `--explain` its own line comes there.
abbrev pub stop_report : Line → List ReadSource → Reporting → List ℕ → ℕ → Answered → Bounds → KeptSession → Option Code → List ℕ
stop_report line parts r text begins answered bounds session None = []
stop_report line parts r text begins answered bounds session (Some code) =
    of_error line parts r text begins (outer_place (place_had answered.place))
    ++ (if line.explain then codes ": " else reason_told (advice_of parts) text answered bounds session code)

abbrev pub run_report : Line → List ReadSource → Reporting → List ℕ → ℕ → Answered → Bounds → KeptSession → List ℕ
run_report line parts r text begins answered bounds session =
    stop_report line parts r text begins answered bounds session (answer_code answered.answer)
    ++ (if line.explain then run_lines r.telling bounds text answered session else [])

-- The same of an undo, a redo or a rewind that was refused: its place is where its text begins.
abbrev pub refusal_report : Line → List ReadSource → Reporting → ℕ → Option Code → List ℕ
refusal_report line parts r begins None = []
refusal_report line parts r begins (Some code) =
    of_error line parts r [] begins 0 ++ (if line.explain then codes ": "
    else codes ": " ++ reason_shown None code ++ advice_of parts ++ codes "\n")

abbrev pub move_report : Line → List ReadSource → Reporting → ℕ → Option Code → KeptSession → List ℕ
move_report line parts r begins code session =
    refusal_report line parts r begins code ++ (if line.explain then move_lines r.telling code session else [])

-- Bytes come after the last pair of ESC, and are not fillers alone.
abbrev pub is_left : List ℕ → Bool → Bool
is_left bytes broken_off = not broken_off && not (list_all is_filler bytes)

abbrev pub left_words : ℕ → List ℕ
left_words n = if n == 1 then codes "1 byte after the last $$ was not run"
    else decimal n ++ codes " bytes after the last $$ were not run"

-- They are told of. After an exit or a fault only `--explain` tells of what was not run.
abbrev pub left_report : Line → List ReadSource → Reporting → List ℕ → Bool → List ℕ
left_report line parts r bytes broken_off =
    if is_left bytes broken_off
    then of_input (input_named line r.inputs) ++ left_words (length bytes) ++ advice_of parts ++ codes "\n"
    else (if broken_off && line.explain then left_line bytes broken_off else [])

-- The run over an input ended since its commands did.
abbrev pub ends_without_exit : Fate → Bool
ends_without_exit (Ended served.EndOfCommands) = true
ends_without_exit _ = false

-- An input whose commands ended without EX is not written, which is told unless a line was told of it before.
abbrev pub unwritten_report : List ℕ → Bool → List ℕ → Fate → List ℕ
unwritten_report advice has_told input fate =
    if has_told || not (ends_without_exit fate) then []
    else of_input input ++ codes "not written, the commands ended without EX" ++ advice ++ codes "\n"

-- with `--explain` what became of the output is told of each input
abbrev pub end_report : Line → List ReadSource → Reporting → List ℕ → Fate → List ℕ
end_report line parts r input fate =
    if line.explain then end_line (output_of line input) fate else unwritten_report (advice_of parts) r.has_told input fate

-- What is told of what was heard. Of what a request did it is told once the answer is shown.
abbrev pub reported : Line → List ReadSource → Reporting → Heard → List ℕ
reported line parts r (Ran text begins answered bounds session) = run_report line parts r text begins answered bounds session
reported line parts r (Moved begins code session) = move_report line parts r begins code session
reported line parts r (Left bytes broken_off) = left_report line parts r bytes broken_off
reported line parts r (Finished at input fate) = end_report line parts r input fate
reported line parts r (Did event) = []

-- before the first text
abbrev pub first_report : Line → Reporting
first_report line = record { telling = record { counts = line.prompt; texts = 0; place = 0 }; inputs = 0; has_told = false }

-- one more text was done, and stopped by a code or not
abbrev pub after_text : Reporting → Option Code → KeptSession → Reporting
after_text r code session =
    record { telling = counted session r.telling; inputs = r.inputs; has_told = r.has_told || is_some code }

abbrev pub after_left : Reporting → List ℕ → Bool → Reporting
after_left r bytes broken_off =
    record { telling = r.telling; inputs = r.inputs; has_told = r.has_told || is_left bytes broken_off }

-- the next input is run over
abbrev pub after_end : Reporting → Reporting
after_end r = record { telling = anew r.telling; inputs = min (r.inputs + 1) (2 ^ 64 - 1); has_told = false }

abbrev pub after_report : Reporting → Heard → Reporting
after_report r (Ran text begins answered bounds session) = after_text r (answer_code answered.answer) session
after_report r (Moved begins code session) = after_text r code session
after_report r (Left bytes broken_off) = after_left r bytes broken_off
after_report r (Finished line input fate) = after_end r
after_report r (Did event) = r
