-- The commands: how each is spelled, what a line asks, what each does, and what is shown of it.
use Rattle.std.specs.Prelude.{◌≡◌, ◌⊎◌, ℕ, suc, ◌+◌, ◌-◌, min, nat_eq, nat_le, nat_lt, Bool, true, false, ◌&&◌, ◌||◌, ◌==◌, not, if◌then◌else◌, List, [], ◌∷◌, ◌++◌, length, map, take, drop, slice_get, codes, Option, Some, None, Result, Ok, Err}
use Rattle.std.specs.List.{prefix_len, remove, suffix_len}
use Rattle.std.specs.Fmt.{decimal}
use Rattle.std.specs.String.{string_bytes}
use Rattle.std.specs.declared.alloc.Global.{Global}
use Rattle.std.specs.declared.vec.Vec.{Vec}
use Prim.Native.Char.{code}
use lib.Pointwise.{pointwise}
use Rattle.teco_core.specs.Ascii.{upper}
use Rattle.teco_core.specs.Register.{register_of}
use Rattle.teco_messages.specs.Spelling.{spelled}
use Rattle.teco_source.specs.Source.{commands_of}
use Rattle.teco_debugger.specs.Around.{around_at}
use Rattle.teco_debugger.specs.Breaks.{stops_shown}
use Rattle.teco_debugger.specs.Number.{number_in}
use Rattle.teco_debugger.specs.Finding.{last_change}
use Rattle.teco_debugger.specs.Walk.{KeptWalk, base, meant, state_there}
use Rattle.teco_debugger.specs.Help.{help_shown}
use Rattle.teco_debugger.specs.History.{history_of_register}
use Rattle.teco_debugger.specs.Listing.{lines_there_shown, registers_shown, state_shown, whole_register}
use Rattle.teco_debugger.specs.Moving.{Arrives, Goal, IsFound, MovesTo, SameRun, calls_of, goal, line_break, line_stop}
use Rattle.teco_debugger.specs.Showing.{step_at, where_at}
use Rattle.teco_debugger.specs.Sources.{IsShownAt}
use Rattle.teco_debugger.specs.Watching.{IsNearestOther}
use Rattle.teco_debugger.specs.declared.sources.SourceText.{SourceText}
use Rattle.teco_debugger.specs.declared.command.DebuggerCommand.{DebuggerCommand}
use Rattle.teco_debugger.specs.declared.command.DebuggerCommand.TheVariants as command
use Rattle.teco_debugger.specs.declared.command.CommandFault.{CommandFault}
use Rattle.teco_debugger.specs.declared.command.CommandFault.TheVariants.{NoCommand, NoNumber, NoRegister, NoPlace, NoSource, NoString, NoWatch, TooMuch, NoneBefore}
use Rattle.teco_debugger.specs.declared.part.Part.{Part}
use Rattle.teco_debugger.specs.declared.part.Part.TheVariants as part
use Rattle.teco_debugger.specs.declared.stops.Found.{Found}
use Rattle.teco_debugger.specs.declared.stops.Found.TheVariants.{At, Nowhere, TooFar}
use Rattle.teco_debugger.specs.declared.stops.Break.{Break}
use Rattle.teco_debugger.specs.declared.stops.Stop.{Stop}
use Rattle.teco_debugger.specs.declared.verb.Takes.{Takes}
use Rattle.teco_debugger.specs.declared.verb.Takes.TheVariants.{Nothing, Number, NumberOr, Register, History, Part as ThePart, Stop as TheStop, Watch as TheWatch}
use Rattle.teco_debugger.specs.declared.verb.Counted.{Counted}
use Rattle.teco_debugger.specs.declared.verb.Counted.TheVariants as counted
use Rattle.teco_debugger.specs.declared.verb.Plain.{Plain}
use Rattle.teco_debugger.specs.declared.verb.Plain.TheVariants as plain
use Rattle.teco_debugger.specs.declared.verb.VerbRow.{VerbRow}
use Rattle.teco_debugger.specs.declared.sources.Shown.{Shown}
use Rattle.teco_debugger.specs.declared.watching.Watch.{Watch}
use Rattle.teco_debugger.specs.declared.watching.Watch.TheVariants as watch
use Rattle.teco_debugger.specs.declared.watching.Way.{Way}
use Rattle.teco_debugger.specs.declared.watching.Way.TheVariants.{On, Back}
use Rattle.teco_debugger.specs.declared.debugger.Debugger.{Debugger}
use Rattle.teco_debugger.specs.declared.view.View.{View}
use Rattle.teco_debugger.specs.declared.view.View.TheVariants.{Step, Where, Around, Typed}
use Prim.Native.Char.{code}

-- a command: its word, the letter that stands for it, and what it takes
pub record Verb : Type 0 where
  pub word : List ℕ
  pub letter : List ℕ
  pub takes : Takes

abbrev pub named : List ℕ → List ℕ → Takes → Verb
named word letter takes = record { word = word; letter = letter; takes = takes }

abbrev pub verb_by : VerbRow → Verb
verb_by row = named row.word.now row.letter.now row.takes

-- the commands; a letter is the first of its word that no word above it has taken. All of those of `watch` are, so it has the d of
-- `differs`. `list` leaves the l to `until`, and has the v of `view`. `delete` has the x that crosses out, and
-- `finish` the o of `out`; `history` has the p of `past`.
abbrev pub verbs : List Verb
verbs = named (codes "next") (codes "n") (NumberOr counted.Next 1)
    ∷ named (codes "back") (codes "b") (NumberOr counted.Back 1)
    ∷ named (codes "goto") (codes "g") (Number counted.Goto)
    ∷ named (codes "end") (codes "e") (Nothing plain.End)
    ∷ named (codes "start") (codes "s") (Nothing plain.Start)
    ∷ named (codes "where") (codes "w") (Nothing plain.Where)
    ∷ named (codes "list") (codes "v") (NumberOr counted.Around 5)
    ∷ named (codes "text") (codes "t") (NumberOr counted.Text 3)
    ∷ named (codes "register") (codes "r") Register
    ∷ named (codes "registers") (codes "i") (Nothing plain.Registers)
    ∷ named (codes "state") (codes "a") (Nothing plain.State)
    ∷ named (codes "find") (codes "f") ThePart
    ∷ named (codes "history") (codes "p") History
    ∷ named (codes "break") (codes "k") TheStop
    ∷ named (codes "delete") (codes "x") (Number counted.Delete)
    ∷ named (codes "continue") (codes "c") (Nothing plain.Continue)
    ∷ named (codes "finish") (codes "o") (Nothing plain.Finish)
    ∷ named (codes "typed") (codes "y") (Nothing plain.Typed)
    ∷ named (codes "undo") (codes "u") (NumberOr counted.Undo 1)
    ∷ named (codes "until") (codes "l") (Number counted.Until)
    ∷ named (codes "watch") (codes "d") TheWatch
    ∷ named (codes "help") (codes "h") (Nothing plain.Help)
    ∷ named (codes "quit") (codes "q") (Nothing plain.Quit)
    ∷ []

-- The bytes are the command's word or its letter.
abbrev pub is_spelled : List ℕ → Verb → Bool
is_spelled bytes verb = pointwise nat_eq bytes verb.word || pointwise nat_eq bytes verb.letter

-- what the first command takes that is spelled so
abbrev pub taken : List Verb → List ℕ → Option Takes
taken [] bytes = None
taken (verb ∷ verbs) bytes = if is_spelled bytes verb then Some verb.takes else taken verbs bytes

-- a space, or a control byte
abbrev pub is_blank : ℕ → Bool
is_blank b = nat_le b (code " ")

abbrev pub without_blanks_before : List ℕ → List ℕ
without_blanks_before bytes = drop (prefix_len is_blank bytes) bytes

abbrev pub without_blanks_after : List ℕ → List ℕ
without_blanks_after bytes = take (length bytes - suffix_len is_blank bytes) bytes

-- the first word of a line, and what comes after it, without the blanks around
abbrev pub word_in : List ℕ → List ℕ
word_in bytes = take (prefix_len (λ b. not (is_blank b)) bytes) bytes

abbrev pub after_word : List ℕ → List ℕ
after_word bytes = without_blanks_before (drop (prefix_len (λ b. not (is_blank b)) bytes) bytes)

-- a number, or one that stands for no bytes
abbrev pub number_or : ℕ → List ℕ → Result ℕ CommandFault
number_or otherwise [] = Ok otherwise
number_or otherwise (b ∷ bytes) = number_in (b ∷ bytes)

-- a command that wants nothing after its word
abbrev pub alone : DebuggerCommand → List ℕ → Result DebuggerCommand CommandFault
alone command [] = Ok command
alone command (b ∷ bytes) = Err TooMuch

-- a command with what its operand is, where it is one
abbrev pub given : {A B : Type 0} → (A → B) → Result A CommandFault → Result B CommandFault
given f (Ok x) = Ok (f x)
given f (Err fault) = Err fault

abbrev pub register_in : List ℕ → Result ℕ CommandFault
register_in [] = Err NoRegister
register_in (b ∷ []) = elim (register_of b) [ Some q ↦ Ok q | None ↦ Err NoRegister ]
register_in (b ∷ c ∷ bytes) = Err NoRegister

-- a register, or the word `text`
abbrev pub part_in : List ℕ → Result Part CommandFault
part_in bytes = if pointwise nat_eq bytes (codes "text") then Ok part.Buffer else given part.Register (register_in bytes)

abbrev pub is_colon : ℕ → Bool
is_colon b = b == code ":"

-- where the last of the pieces begins that colons part, and what is before its colon
abbrev pub last_piece : List ℕ → ℕ
last_piece bytes = length bytes - suffix_len (λ b. not (is_colon b)) bytes

abbrev pub before_piece : List ℕ → List ℕ
before_piece bytes = take (last_piece bytes - 1) bytes

-- the number of the first source of this name, if the first of all has the number n
abbrev pub source_named : List SourceText → List ℕ → ℕ → Option ℕ
source_named [] name n = None
source_named (source ∷ sources) name n =
    if pointwise nat_eq name (string_bytes source.name) then Some n else source_named sources name (suc n)

-- a place in the source of this number, if there is one
abbrev pub stop_of : Option ℕ → ℕ → Option ℕ → Result Stop CommandFault
stop_of (Some number) line column = Ok (record { source = Some number; line = line; column = column })
stop_of None line column = Err NoSource

-- FILE:LINE stands before a colon and a number, which is then a column; or FILE does, and the number is a line
abbrev pub stop_in_file : List SourceText → List ℕ → ℕ → Result ℕ CommandFault → Result Stop CommandFault
stop_in_file sources front last (Ok line) = stop_of (source_named sources (before_piece front) 0) line (Some last)
stop_in_file sources front last (Err fault) = stop_of (source_named sources front 0) last None

-- LINE stands before them; or something with a file
abbrev pub stop_behind : List SourceText → List ℕ → ℕ → Result ℕ CommandFault → Result Stop CommandFault
stop_behind sources front last (Ok line) = Ok (record { source = None; line = line; column = Some last })
stop_behind sources front last (Err fault) = stop_in_file sources front last (number_in (drop (last_piece front) front))

abbrev pub stop_by : List SourceText → List ℕ → Result ℕ CommandFault → Result Stop CommandFault
stop_by sources bytes (Err fault) = Err NoPlace
stop_by sources bytes (Ok last) =
    if last_piece bytes == 0 then Ok (line_stop last)
    else stop_behind sources (before_piece bytes) last (number_in (before_piece bytes))

-- a place to stop at: LINE, LINE:COLUMN, FILE:LINE or FILE:LINE:COLUMN
abbrev pub stop_in : List SourceText → List ℕ → Result Stop CommandFault
stop_in sources bytes = stop_by sources bytes (number_in (drop (last_piece bytes) bytes))

abbrev pub break_at : Stop → DebuggerCommand
break_at stop = command.Break stop

abbrev pub break_where : Stop → DebuggerCommand
break_where stop = command.BreakIf stop

-- The word `if` comes after the first word, and then a string.
abbrev pub is_tested : List ℕ → Bool
is_tested bytes = pointwise nat_eq (word_in (after_word bytes)) (codes "if")

abbrev pub behind_if : List ℕ → List ℕ
behind_if bytes = after_word (after_word bytes)

-- the string behind `if` in a line of `break`
abbrev pub test_in : List ℕ → List ℕ
test_in line = behind_if (after_word (without_blanks_before (without_blanks_after line)))

-- such a place in a word, and a string behind `if`
abbrev pub break_if : List SourceText → List ℕ → Result DebuggerCommand CommandFault
break_if sources bytes =
    if length (behind_if bytes) == 0 then Err NoString else given break_where (stop_in sources (word_in bytes))

abbrev pub break_in : List SourceText → List ℕ → Result DebuggerCommand CommandFault
break_in sources bytes = if is_tested bytes then break_if sources bytes else given break_at (stop_in sources bytes)

-- such a place to stop at, or the list of them
abbrev pub stop_or_list : List SourceText → List ℕ → Result DebuggerCommand CommandFault
stop_or_list sources [] = Ok (command.Plain plain.Breaks)
stop_or_list sources (b ∷ bytes) = break_in sources (b ∷ bytes)

-- the register of this name, to be watched
abbrev pub watched_register : ℕ → Result Watch CommandFault
watched_register b = elim (register_of b) [ Some q ↦ Ok (watch.Register q) | None ↦ Err NoWatch ]

-- what is watched that one byte names: the pointer, the length of the buffer, or a register
abbrev pub watched_by : ℕ → Result Watch CommandFault
watched_by b =
    if b == code "." then Ok watch.Pointer else (if upper b == code "Z" then Ok watch.Length else watched_register b)

-- Any register can have a Q before its name, and register Z has to.
abbrev pub watched_in : List ℕ → Result Watch CommandFault
watched_in [] = Err NoWatch
watched_in (b ∷ []) = watched_by b
watched_in (q ∷ b ∷ []) = if upper q == code "Q" then watched_register b else Err NoWatch
watched_in (q ∷ b ∷ c ∷ bytes) = Err NoWatch

-- on, or back if that word comes
abbrev pub way_in : List ℕ → Result Way CommandFault
way_in [] = Ok On
way_in (b ∷ bytes) = if pointwise nat_eq (b ∷ bytes) (codes "back") then Ok Back else Err NoWatch

abbrev pub watch_from : Result Watch CommandFault → Result Way CommandFault → Result DebuggerCommand CommandFault
watch_from (Ok watched) (Ok way) = Ok (command.Watch watched way)
watch_from (Ok watched) (Err fault) = Err fault
watch_from (Err fault) way = Err fault

-- what is watched, and then which way to go
abbrev pub watch_in : List ℕ → Result DebuggerCommand CommandFault
watch_in bytes = watch_from (watched_in (word_in bytes)) (way_in (after_word bytes))

abbrev pub find : Part → DebuggerCommand
find part = command.Find part

-- the command that takes this, with these bytes after its word
abbrev pub command_in : List SourceText → Takes → List ℕ → Result DebuggerCommand CommandFault
command_in sources (Nothing plain) bytes = alone (command.Plain plain) bytes
command_in sources (Number counted) bytes = given (command.Counted counted) (number_in bytes)
command_in sources (NumberOr counted otherwise) bytes = given (command.Counted counted) (number_or otherwise bytes)
command_in sources Register bytes = given command.Register (register_in bytes)
command_in sources History bytes = given command.History (register_in bytes)
command_in sources ThePart bytes = given find (part_in bytes)
command_in sources TheStop bytes = stop_or_list sources bytes
command_in sources TheWatch bytes = watch_in bytes

abbrev pub command_by : List SourceText → Option Takes → List ℕ → Result DebuggerCommand CommandFault
command_by sources (Some takes) bytes = command_in sources takes bytes
command_by sources None bytes = Err NoCommand

-- what a line asks, where the string has these sources: its first word tells the command, and what comes after it is the operand
abbrev pub command_of : List SourceText → List ℕ → Result DebuggerCommand CommandFault
command_of sources line =
    let bytes = without_blanks_before (without_blanks_after line) in
    command_by sources (taken verbs (word_in bytes)) (after_word bytes)

-- a line of blanks alone
abbrev pub is_empty_line : List ℕ → Bool
is_empty_line line = length (without_blanks_after line) == 0

-- the last command, to be done again
abbrev pub or_none_before : Option DebuggerCommand → Result DebuggerCommand CommandFault
or_none_before (Some last) = Ok last
or_none_before None = Err NoneBefore

-- what a line asks of a debugger: an empty one asks for the last command again
abbrev pub asked : Debugger → List ℕ → Result DebuggerCommand CommandFault
asked debugger line = if is_empty_line line then or_none_before debugger.again else command_of debugger.sources.items line

-- the command that an empty line after this one asks for: the same, if it moves or shows
abbrev pub again_after : DebuggerCommand → Option DebuggerCommand
again_after (command.Break stop) = None
again_after (command.BreakIf stop) = None
again_after (command.Plain plain) = Some (command.Plain plain)
again_after (command.Counted counted.Delete n) = None
again_after (command.Counted counted n) = Some (command.Counted counted n)
again_after (command.Register q) = Some (command.Register q)
again_after (command.History q) = Some (command.History q)
again_after (command.Find part) = Some (command.Find part)
again_after (command.Watch watched way) = Some (command.Watch watched way)

-- the debugger once it is noted what a line asked
abbrev pub noted : Result DebuggerCommand CommandFault → Debugger → Debugger
noted (Ok done) old = record old { again = again_after done }
noted (Err fault) old = old

-- what is said of a line that is no command
abbrev pub words_of : CommandFault → List ℕ
words_of NoCommand = codes "no such command; help lists them"
words_of NoNumber = codes "a number is wanted"
words_of NoRegister = codes "a register is wanted, A to Z or 0 to 9"
words_of NoPlace = codes "a place is wanted, as LINE, LINE:COLUMN or FILE:LINE"
words_of NoSource = codes "no source has this name"
words_of NoString = codes "a string is wanted after if"
words_of NoWatch = codes "a register, . or Z is wanted, and then back or nothing"
words_of TooMuch = codes "nothing is wanted after this command"
words_of NoneBefore = codes "no command to do again"

-- a line that ends by LF
abbrev pub answer_line : List ℕ → List ℕ
answer_line words = words ++ codes "\n"

-- This is shown, and nothing changes.
abbrev pub OnlyShows : List ℕ → Debugger → Debugger → List ℕ → Type 0
OnlyShows text old new shown = (new ≡ old) × (shown ≡ text)

-- what is shown of where a walk stands
abbrev pub seen_shown : View → List SourceText → KeptWalk → Shown → List ℕ
seen_shown Step sources walk there = step_at sources walk there
seen_shown Where sources walk there = where_at sources walk there
seen_shown (Around n) sources walk there = around_at sources walk there n
seen_shown Typed sources walk there = answer_line (spelled there.seen.typed.items)

-- This is shown of where a walk stands, behind what was shown before.
abbrev pub ShowsSeen : View → List SourceText → KeptWalk → List ℕ → List ℕ → Type 0
ShowsSeen view sources walk old new = (there : Shown) × IsShownAt sources walk walk.steps there
    × (new ≡ old ++ seen_shown view sources walk there)

-- Where the walk stands is shown, with all that is open there.
abbrev pub ShowsWhere : Debugger → Debugger → List ℕ → Type 0
ShowsWhere old new shown = (new ≡ old)
    × ((there : Shown) × IsShownAt old.sources.items old.walk old.walk.steps there
    × (shown ≡ where_at old.sources.items old.walk there))

-- Where the walk stands is shown, with so many lines before and after that of the step.
abbrev pub ShowsAround : ℕ → Debugger → Debugger → List ℕ → Type 0
ShowsAround n old new shown = (new ≡ old)
    × ((there : Shown) × IsShownAt old.sources.items old.walk old.walk.steps there
    × (shown ≡ around_at old.sources.items old.walk there n))

-- A line for each command is shown, in their order, with its word and its letter.
abbrev pub ShowsHelp : Debugger → Debugger → List ℕ → Type 0
ShowsHelp old new shown = (new ≡ old)
    × ((rows : List VerbRow) × (map verb_by rows ≡ verbs) × (shown ≡ help_shown rows))

-- It goes to a step as a move that can be taken back, if there is such a step; else it says why there is none.
abbrev pub GoesOrSays : Option ℕ → List ℕ → Debugger → Debugger → List ℕ → Type 0
GoesOrSays (Some n) words old new shown = MovesTo n old new shown
GoesOrSays None words old new shown = OnlyShows (answer_line words) old new shown

-- the line that is shown if no step before this one is there, and it takes too much work to look further
abbrev pub far_line : ℕ → List ℕ
far_line n = codes "no step before step " ++ decimal n ++ codes " is there, and it takes too long to look further\n"

-- It goes to the step that was found, or says why there is none.
abbrev pub GoesByFound : Found → Debugger → Debugger → List ℕ → Type 0
GoesByFound (At n) old new shown = MovesTo n old new shown
GoesByFound Nowhere old new shown = OnlyShows (answer_line (codes "no such step comes")) old new shown
GoesByFound (TooFar n) old new shown = OnlyShows (far_line n) old new shown

-- It goes on to the next step where it is to stop, if such a step comes.
abbrev pub GoesOnTo : Goal → Debugger → Debugger → List ℕ → Type 0
GoesOnTo goal old new shown =
    (found : Found) × IsFound old.sources.items old.walk goal (old.walk.steps + 1) old.limit found × GoesByFound found old new shown

-- The same, unless none is noted.
abbrev pub GoesOnUnless : Bool → List Break → Debugger → Debugger → List ℕ → Type 0
GoesOnUnless true stops old new shown = OnlyShows (answer_line (codes "no place to stop at is noted")) old new shown
GoesOnUnless false stops old new shown = GoesOnTo (goal stops 0) old new shown

-- It goes on to the next step at a place to stop at, if one is noted and such a step comes.
abbrev pub GoesOnToStop : List Break → Debugger → Debugger → List ℕ → Type 0
GoesOnToStop stops old new shown = GoesOnUnless (length stops == 0) stops old new shown

-- So many calls are open where the walk stands.
abbrev pub HasOpenCalls : List SourceText → KeptWalk → ℕ → Type 0
HasOpenCalls sources walk n = (there : Shown) × IsShownAt sources walk walk.steps there × (n ≡ calls_of there.seen.place)

abbrev pub FinishesUnless : Bool → ℕ → Debugger → Debugger → List ℕ → Type 0
FinishesUnless true calls old new shown = OnlyShows (answer_line (codes "no call is open")) old new shown
FinishesUnless false calls old new shown = GoesOnTo (goal [] calls) old new shown

-- It goes on to the next step with fewer calls open than here, if one is open here.
abbrev pub Finishes : Debugger → Debugger → List ℕ → Type 0
Finishes old new shown =
    (calls : ℕ) × HasOpenCalls old.sources.items old.walk calls × FinishesUnless (calls == 0) calls old new shown

-- These are the places to stop at, and nothing else changes. Nothing is shown.
pub record NotesStops (stops : List Break) (old new : Debugger) (shown : List ℕ) : Type 0 where
  pub stops_are : new.stops.items ≡ stops
  pub walk : new.walk ≡ old.walk
  pub limit : new.limit ≡ old.limit
  pub moves : new.moves ≡ old.moves
  pub again : new.again ≡ old.again
  pub sources : new.sources ≡ old.sources
  pub nothing : shown ≡ []

-- A place to stop at is noted behind the others, whatever the state there.
abbrev pub NotesStop : Stop → Debugger → Debugger → List ℕ → Type 0
NotesStop stop old new shown = NotesStops (old.stops.items ++ record { stop = stop; test = None } ∷ []) old new shown

-- It is noted with the string that these commands are; or a caret in it stands before what it cannot stand before.
abbrev pub NotesTest : Result (List ℕ) ℕ → Stop → Debugger → Debugger → List ℕ → Type 0
NotesTest (Ok commands) stop old new shown = (test : Vec ℕ Global) × (test.items ≡ commands)
    × NotesStops (old.stops.items ++ record { stop = stop; test = Some test } ∷ []) old new shown
NotesTest (Err at) stop old new shown = OnlyShows (answer_line (codes "a caret before what it cannot stand before")) old new shown

-- There are places of the numbers from 1 to as many as they are.
abbrev pub is_number : ℕ → List Break → Bool
is_number n stops = nat_lt 0 n && nat_le n (length stops)

abbrev pub DeletesIf : Bool → ℕ → Debugger → Debugger → List ℕ → Type 0
DeletesIf true n old new shown = NotesStops (remove old.stops.items (n - 1)) old new shown
DeletesIf false n old new shown = OnlyShows (answer_line (codes "no place to stop at has this number")) old new shown

-- The place of this number is no longer one to stop at, if there is one.
abbrev pub Deletes : ℕ → Debugger → Debugger → List ℕ → Type 0
Deletes n old new shown = DeletesIf (is_number n old.stops.items) n old new shown

-- It goes back to before the last change of a part, if one was made.
abbrev pub FindsChange : Option ℕ → Debugger → Debugger → List ℕ → Type 0
FindsChange to old new shown = GoesOrSays to (codes "no step before this one changed it") old new shown

-- what is said if what is watched is as here at all those steps
abbrev pub words_without : Way → List ℕ
words_without On = codes "no step after this one changes it"
words_without Back = codes "no step before this one changed it"

-- It goes to the nearest step at which what is watched differs from here, if there is one.
abbrev pub Watches : Way → Watch → Debugger → Debugger → List ℕ → Type 0
Watches way watch old new shown =
    (to : Option ℕ) × IsNearestOther way watch old.walk old.limit to × GoesOrSays to (words_without way) old new shown

-- Some moves are taken back: it goes to where the walk stood before the first of them, if there was a move.
abbrev pub TakesBack : ℕ → Option ℕ → Debugger → Debugger → List ℕ → Type 0
TakesBack left (Some n) old new shown =
    Arrives n old new shown × (new.moves.items ≡ take left old.moves.items)
TakesBack left None old new shown = OnlyShows (answer_line (codes "no move to take back")) old new shown

-- how many moves are left if the last n are taken back
abbrev pub moves_left : ℕ → List ℕ → ℕ
moves_left n moves = length moves - n

-- the commands that take nothing
abbrev pub AnswersPlain : Plain → Debugger → Debugger → List ℕ → Type 0
AnswersPlain plain.End old new shown = MovesTo old.limit old new shown
AnswersPlain plain.Start old new shown = MovesTo 0 old new shown
AnswersPlain plain.Where old new shown = ShowsWhere old new shown
AnswersPlain plain.Registers old new shown =
    OnlyShows (registers_shown (state_there old.walk).registers) old new shown
AnswersPlain plain.State old new shown = OnlyShows (state_shown (state_there old.walk)) old new shown
AnswersPlain plain.Breaks old new shown = OnlyShows (stops_shown old.sources.items old.stops.items) old new shown
AnswersPlain plain.Continue old new shown = GoesOnToStop old.stops.items old new shown
AnswersPlain plain.Finish old new shown = Finishes old new shown
-- all that the string typed so far
AnswersPlain plain.Typed old new shown =
    OnlyShows (answer_line (spelled (meant (base old.walk) old.walk.text old.walk.steps).typed)) old new shown
AnswersPlain plain.Help old new shown = ShowsHelp old new shown
AnswersPlain plain.Quit old new shown = OnlyShows [] old new shown

-- the commands that take a number
abbrev pub AnswersCounted : Counted → ℕ → Debugger → Debugger → List ℕ → Type 0
AnswersCounted counted.Next n old new shown = MovesTo (min (old.walk.steps + n) old.limit) old new shown
AnswersCounted counted.Back n old new shown = MovesTo (old.walk.steps - n) old new shown
AnswersCounted counted.Goto n old new shown = MovesTo (min n old.limit) old new shown
AnswersCounted counted.Around n old new shown = ShowsAround n old new shown
AnswersCounted counted.Text n old new shown = OnlyShows (lines_there_shown (state_there old.walk) n) old new shown
AnswersCounted counted.Undo n old new shown = TakesBack (moves_left n old.moves.items)
    (slice_get old.moves.items (moves_left n old.moves.items)) old new shown
AnswersCounted counted.Until n old new shown = GoesOnTo (goal (line_break n ∷ []) 0) old new shown
AnswersCounted counted.Delete n old new shown = Deletes n old new shown

-- what a command of a line does, and what is shown of it
abbrev pub AnswersCommand : DebuggerCommand → List ℕ → Debugger → Debugger → List ℕ → Type 0
AnswersCommand (command.Plain plain) line old new shown = AnswersPlain plain old new shown
AnswersCommand (command.Counted counted n) line old new shown = AnswersCounted counted n old new shown
AnswersCommand (command.Register q) line old new shown =
    OnlyShows (whole_register (state_there old.walk).registers q) old new shown
AnswersCommand (command.History q) line old new shown = OnlyShows (history_of_register old.walk q) old new shown
AnswersCommand (command.Find part) line old new shown = FindsChange (last_change part old.walk.changes) old new shown
AnswersCommand (command.Watch watched way) line old new shown = Watches way watched old new shown
AnswersCommand (command.Break stop) line old new shown = NotesStop stop old new shown
-- the string is that of the line, read as a source is
AnswersCommand (command.BreakIf stop) line old new shown = NotesTest (commands_of (test_in line)) stop old new shown

-- Memory was refused to the command. That alone is shown, with the step at which the walk then stands.
pub record TellsNoMemory (old new : Debugger) (shown : List ℕ) : Type 0 where
  pub same : SameRun old new
  pub shown_is : shown ≡ answer_line (codes "no memory; the walk stands at step " ++ decimal new.walk.steps)

-- The answer to a line: that of its command, or why it is none.
abbrev pub IsAnswerTo : Result DebuggerCommand CommandFault → List ℕ → Debugger → Debugger → List ℕ → Type 0
IsAnswerTo (Ok command) line old new shown = AnswersCommand command line old new shown ⊎ TellsNoMemory old new shown
IsAnswerTo (Err fault) line old new shown = OnlyShows (answer_line (words_of fault)) old new shown

-- the line asks to leave
abbrev pub is_leaving : Result DebuggerCommand CommandFault → Bool
is_leaving (Ok (command.Plain plain.Quit)) = true
is_leaving _ = false
