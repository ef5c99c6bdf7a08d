-- What `--explain` tells, and when.
use Rattle.std.specs.Prelude.{◌≡◌, ◌⊎◌, ℕ, ◌+◌, ◌-◌, ◌^◌, ◌==◌, List, [], ◌++◌, length, min, codes, nat_lt, count_by, if◌then◌else◌, Option, Some, None, Result, Ok, Err, Bool, true, false, ◌&&◌}
use Rattle.std.specs.Fmt.{decimal}
use Rattle.std.specs.List.{list_all}
use Rattle.std.specs.String.{string_bytes}
use Rattle.std.specs.declared.alloc.AllocError.{AllocError}
use Rattle.std.specs.declared.alloc.Global.{Global}
use Rattle.std.specs.declared.string.String.{String}
use Rattle.teco_core.specs.Ascii.{is_filler}
use Rattle.teco_core.specs.declared.code.Code.{Code}
use Rattle.teco_core.specs.declared.limits.TheConstants.{TEXT_LIMIT}
use Rattle.teco_core.specs.declared.profile.Profile.{Profile}
use Rattle.teco_core.specs.declared.profile.Profile.TheVariants.{Named, Wide}
use Rattle.teco_exec.specs.declared.place.Place.{Place}
use Rattle.teco_cli.specs.declared.line.Line.{Line}
use Rattle.teco_fs.specs.Refusing.{Tells}
use Rattle.teco_serve.specs.Ending.{output_of}
use Rattle.teco_serve.specs.Heard.{Heard}
use Rattle.teco_serve.specs.Heard.Heard.{Ran, Moved, Left, Finished, Did}
use Rattle.teco_serve.specs.declared.alarm.Bounds.{Bounds}
use Rattle.teco_serve.specs.declared.fate.Fate.{Fate}
use Rattle.teco_serve.specs.declared.fate.Fate.TheVariants.{NoCommands, NoInput, NotRegular, LargeInput, NoMemory, NoOutput, NoBackup, Changed, Unchanged, Lacking}
use Rattle.teco_serve.specs.declared.fate.Fate.TheVariants.{Ended}
use Rattle.teco_serve.specs.declared.explaining.Telling.{Telling}
use Rattle.teco_serve.specs.declared.served.Served.TheVariants as served
use Rattle.teco_session.specs.Answers.{answer_code, outcome_of}
use Rattle.teco_session.specs.Kept.{KeptSession, string_at}
use Rattle.teco_session.specs.declared.request.Answered.{Answered}
use Rattle.teco_exec.specs.declared.outcome.Outcome.{Outcome}
use Rattle.teco_store.specs.Kinds.{kind_of}
use Rattle.teco_store.specs.State.{state_of}
use Rattle.teco_store.specs.Turn.{Note as Change}
use Rattle.teco_store.specs.declared.change_kind.ChangeKind.{ChangeKind}
use Rattle.teco_store.specs.declared.change_kind.ChangeKind.TheVariants as change
use Rattle.teco_messages.specs.Shown.{code_shown}
use Rattle.teco_messages.specs.Stop.{stop_shown}
use Rattle.teco_messages.specs.declared.sentence.Limits.{Limits}
use Rattle.teco_io.specs.Terminal.{Screen}

-- each line of a text begins with its number
abbrev pub of_string : ℕ → List ℕ
of_string n = codes "string " ++ decimal n

-- The seconds are told only of a string that was broken off, since it had steps left.
abbrev pub seconds_after : Bounds → Option Outcome → Option ℕ
seconds_after bounds None = None
seconds_after bounds (Some outcome) = if nat_lt outcome.steps bounds.steps then bounds.seconds else None

-- how large the limits are of a string that ran within these bounds
abbrev pub limits_after : Bounds → Option Outcome → Limits
limits_after bounds ended = record { steps = bounds.steps; seconds = seconds_after bounds ended; bytes = TEXT_LIMIT }

-- where the run last stood, unless memory lacked for that
abbrev pub place_had : Result (Option Place) AllocError → Option Place
place_had (Ok place) = place
place_had (Err lacking) = None

-- why a text that was run stopped, if it has a code
abbrev pub stop_line : ℕ → Bounds → List ℕ → Answered → KeptSession → Option Code → List ℕ
stop_line n bounds text answered session None = []
stop_line n bounds text answered session (Some code) =
    of_string n ++ stop_shown (state_of session.editor).profile (place_had answered.place) (state_of session.editor).registers text code
    (Some (limits_after bounds (outcome_of answered.answer))) ++ codes "\n"

-- how many steps it took
abbrev pub steps_line : ℕ → ℕ → List ℕ
steps_line n steps = of_string n ++ (codes ": steps taken " ++ decimal steps ++ codes "\n")

-- the same, if that is wanted and it was begun
abbrev pub steps_told : ℕ → Bool → Option Outcome → List ℕ
steps_told n false ended = []
steps_told n true None = []
steps_told n true (Some outcome) = steps_line n outcome.steps

-- a change of the place in the input
abbrev pub is_turn : ChangeKind → Bool
is_turn change.Pages = true
is_turn _ = false

-- A string that exited has read no page if its exit alone moved the place in the input.
abbrev pub is_bare_exit : List Change → Bool
is_bare_exit changes = nat_lt (count_by (λ c. is_turn (kind_of c.turn)) changes) 2

-- The last string has made the session done, and its exit was the first to read of the input. Nothing is read of an empty
-- one, so there it isn't seen whether a page came first.
abbrev pub exits_first : ℕ → KeptSession → Option Outcome → Bool
exits_first place session None = false
exits_first place session (Some outcome) =
    (state_of session.editor).is_done && (place == 0) && nat_lt 0 (state_of session.editor).place
    && nat_lt (session.cursor - 1) (length session.strings) && is_bare_exit (string_at session (session.cursor - 1)).changes

-- an exit before any page was read, since most of them were meant to come after one
abbrev pub exit_line : ℕ → KeptSession → Option Outcome → List ℕ
exit_line place session ended = if exits_first place session ended
    then codes "EX came before any page was read: the input is copied\n" else []

-- the number of the next text, which stops at the highest one
abbrev pub next_number : Telling → ℕ
next_number t = min (t.texts + 1) (2 ^ 64 - 1)

-- before the first text: what the line wants told
abbrev pub beginning_of : Line → Telling
beginning_of line = record { counts = line.prompt; texts = 0; place = 0 }

-- with the first text, which language the commands are in, if that is the wide one
abbrev pub profile_line : ℕ → Profile → List ℕ
profile_line n Named = []
profile_line n Wide = if n == 1 then codes "the commands are in the wide language\n" else []

-- What is told of a text that was run: why it stopped; the wide language; how many steps it took, if that is wanted; and an exit
-- that came first.
abbrev pub run_lines : Telling → Bounds → List ℕ → Answered → KeptSession → List ℕ
run_lines t bounds text answered session =
    stop_line (next_number t) bounds text answered session (answer_code answered.answer)
    ++ profile_line (next_number t) (state_of session.editor).profile
    ++ steps_told (next_number t) t.counts (outcome_of answered.answer)
    ++ exit_line t.place session (outcome_of answered.answer)

-- why undos, redos or a rewind were refused, if they were
abbrev pub refusal_line : ℕ → Option Code → List ℕ
refusal_line n None = []
refusal_line n (Some code) = of_string n ++ code_shown code ++ codes "\n"

-- how many strings can be undone and redone, if that is wanted
abbrev pub history_line : ℕ → Bool → KeptSession → List ℕ
history_line n false session = []
history_line n true session =
    of_string n ++ codes ": strings to undo " ++ decimal session.cursor
    ++ codes ", to redo " ++ decimal (length session.strings - session.cursor) ++ codes "\n"

-- What is told of a text that asked for undos, redos or a rewind.
abbrev pub move_lines : Telling → Option Code → KeptSession → List ℕ
move_lines t code session = refusal_line (next_number t) code
    ++ profile_line (next_number t) (state_of session.editor).profile
    ++ history_line (next_number t) t.counts session

-- what bytes come after that were not run
abbrev pub after_what : Bool → List ℕ
after_what true = codes "the last string that ran"
after_what false = codes "the last ESC ESC"

-- What is told of bytes that were not run: how many they are, unless they are fillers alone.
abbrev pub left_line : List ℕ → Bool → List ℕ
left_line bytes broken_off =
    if list_all is_filler bytes then []
    else if length bytes == 1 then codes "1 byte after " ++ after_what broken_off ++ codes " was not run" ++ codes "\n"
    else decimal (length bytes) ++ codes " bytes after " ++ after_what broken_off ++ codes " were not run" ++ codes "\n"

-- an output that is not written
abbrev pub unwritten_line : List ℕ → List ℕ
unwritten_line name = name ++ codes " is not written" ++ codes "\n"

-- What is told of how the run over an input ended, by the name of its output: what became of that.
abbrev pub end_line : List ℕ → Fate → List ℕ
end_line output (NoCommands reason) = []
end_line output (NoInput reason) = unwritten_line output
end_line output (NoOutput reason) = unwritten_line output
end_line output (NoBackup reason) = unwritten_line output
end_line output NotRegular = unwritten_line output
end_line output LargeInput = unwritten_line output
end_line output NoMemory = unwritten_line output
end_line output Changed = unwritten_line output
end_line output Unchanged = output ++ codes " is unchanged" ++ codes "\n"
end_line output (Lacking unkept) = output ++ codes " is written" ++ codes "\n"
end_line output (Ended served.Exit) = output ++ codes " is written" ++ codes "\n"
end_line output (Ended served.EndOfCommands) = codes "the commands ended without EX: " ++ unwritten_line output
end_line output (Ended served.ReadFault) = unwritten_line output
end_line output (Ended served.ShowFault) = unwritten_line output
end_line output (Ended served.NoMemory) = unwritten_line output

-- Lines are told at once: all of them are shown, or a beginning and then the terminal fails. If memory lacked for
-- them, that is told.
abbrev pub TellsLines : Screen → Screen → List ℕ → Type 0
TellsLines old new lines = Tells old new lines ⊎ Tells old new (codes "no memory to explain\n")

-- the lines, where there was memory for them
abbrev pub told : Result (String Global) AllocError → List ℕ
told (Ok lines) = string_bytes lines
told (Err lacking) = codes "no memory to explain\n"

-- one more text was done, and so much of the input is read now
abbrev pub counted : KeptSession → Telling → Telling
counted session t = record t { texts = next_number t; place = (state_of session.editor).place }

-- no text of the next input is done yet
abbrev pub anew : Telling → Telling
anew t = record t { texts = 0; place = 0 }

-- What `--explain` tells of what was heard. Of what a request did it tells once the answer is shown.
abbrev pub explained : Heard → Telling → List ℕ
explained (Ran text begins answered bounds session) t = run_lines t bounds text answered session
explained (Moved begins code session) t = move_lines t code session
explained (Left bytes broken_off) t = left_line bytes broken_off
explained (Finished line input fate) t = end_line (output_of line input) fate
explained (Did event) t = []

-- what it counts once that was heard
abbrev pub after_hearing : Heard → Telling → Telling
after_hearing (Ran text begins answered bounds session) t = counted session t
after_hearing (Moved begins code session) t = counted session t
after_hearing (Left bytes broken_off) t = t
after_hearing (Finished line input fate) t = anew t
after_hearing (Did event) t = t

-- what a listener tells of, and what is seen of the notes that it tells it on
pub record Hearing : Type 0 where
  pub telling : Telling
  pub notes : Screen

-- The lines are told before the call ends in which the listener hears of it. What a request did is told of once its answer is shown.
abbrev pub HasTold : Hearing → Hearing → Heard → Type 0
HasTold old new (Did event) = new ≡ old
HasTold old new heard =
    (new.telling ≡ after_hearing heard old.telling) × TellsLines old.notes new.notes (explained heard old.telling)
