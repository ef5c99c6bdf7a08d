-- A run over one input of the line: what it reads, serves and writes, and how it ends.
use Rattle.teco_io.specs.declared.source.Source.{Ghosts as SourceView}
use Rattle.std.specs.Prelude.{◌≡◌, ◌≢◌, ◌⊎◌, ◌||◌, ◌&&◌, not, ⊤, ℕ, ◌+◌, ◌*◌, List, [], length, codes, Option, Some, None, Bool, IsTrue, true, false, if◌then◌else◌}
use Rattle.std.specs.Str.{bytes_eq}
use Rattle.std.specs.String.{string_bytes}
use Rattle.teco_io.specs.Terminal.{IsFrontOf, Screen, Shows}
use Rattle.teco_cli.specs.Conflict.{are_awaited}
use Rattle.teco_cli.specs.StreamNames.{is_standard_output}
use Rattle.std.specs.declared.io.Error.{Error}
use Rattle.teco_core.specs.declared.limits.TheConstants.{FILE_LIMIT}
use Rattle.teco_session.specs.History.{History, history_from, present}
use Rattle.teco_store.specs.State.{State, paged_beginning}
use Rattle.teco_driver.specs.Values.{registers_of}
use Rattle.teco_fs.specs.declared.unkept.Unkept.{Unkept}
use Rattle.teco_fs.specs.Disk.{Files, IsStream, Opens}
use Rattle.teco_serve.specs.Ending.{fate_without_input, output_of, said, status_of, text_of}
use Rattle.teco_io.specs.Input.{IsFaultOf}
use Rattle.teco_fs.specs.Refusing.{Tells}
use Rattle.teco_serve.specs.Exchange.{allowance}
use Rattle.teco_serve.specs.Serving.{Serves}
use Rattle.teco_driver.specs.Paging.{is_on_pages, page_lines_of}
use Rattle.teco_driver.specs.Backups.{FailsToKeep, LeavesOver, Replacing, WritesOver, replacing_of}
use Rattle.teco_driver.specs.Seen.{CommandsSeen, InputSeen, OutputSeen, RunSeen}
use Rattle.teco_fs.specs.Console.{TerminalSeen, terminal_seen}
use Rattle.teco_fs.specs.Reading.{IsInput, IsStreamed}
use Rattle.teco_fs.specs.Reasons.{ComesTo}
use Rattle.teco_fs.specs.declared.reason.Reason.TheVariants.{WriteFailed}
use Rattle.teco_fs.specs.Seen.{DiskSeen, KeepsDisk}
use Rattle.teco_io.specs.Source.{Gives}
use Rattle.teco_fs.specs.Writing.{HasDraft, IsWriteError}
use Rattle.teco_serve.specs.declared.alarm.Bounds.{Bounds}
use Rattle.teco_serve.specs.declared.alarm.Manner.{Manner}
use Rattle.teco_serve.specs.declared.fate.Fate.{Fate}
use Rattle.teco_serve.specs.declared.fate.Fate.TheVariants.{NoCommands, NoInput, NotRegular, LargeInput, NoMemory, NoOutput, NoBackup}
use Rattle.teco_serve.specs.declared.fate.Fate.TheVariants.{Changed, Unchanged, Lacking}
use Rattle.teco_serve.specs.declared.fate.Fate.TheVariants.{Ended}
use Rattle.teco_io.specs.declared.input.InputFault.{InputFault}
use Rattle.teco_cli.specs.declared.line.Line.{Line}
use Rattle.teco_scan.specs.Stream.{asks_history}
use Rattle.teco_serve.specs.declared.served.Served.{Served}
use Rattle.teco_serve.specs.declared.served.Served.TheVariants as served

-- What the disk opened under the name was read, and that ended by a fault.
pub record FailsToRead {I : Type 0} (input : SourceView I) (files : Option Files) (name : List ℕ)
    (fate : Fate) : Type 0 where
  pub first : I
  pub last : I
  pub fault : InputFault
  pub opened : Opens files name (input.coming first)
  pub fault_is : IsFaultOf FILE_LIMIT (Gives input.coming input.bound input.failures first last) fault
  pub fate_is : fate ≡ fate_without_input fault

-- The disk refused to open the file, by an error whose reason the fate has.
pub record FailsToOpen (gave : Error → Type 0) (fate : Fate) : Type 0 where
  pub error : Error
  pub given : gave error
  pub fate_is : ComesTo error NoMemory NoInput fate

-- Why there is no input.
abbrev pub LacksInput : {I : Type 0} → DiskSeen I → DiskSeen I → List ℕ → Fate → Type 0
LacksInput old new name fate = FailsToOpen new.gave fate ⊎ FailsToRead new.input old.files name fate

-- The output file is as it was; and at each moment it was so, or had these bytes. The fate is that of the
-- error, and has its reason.
pub record FailsToWrite {I : Type 0} (old new : DiskSeen I) (name : List ℕ) (how : Replacing) (bytes : List ℕ) (fate : Fate)
    : Type 0 where
  pub leaves : LeavesOver old new name how bytes
  pub error : Error
  pub given : IsWriteError new.gave error
  pub fate_is : ComesTo error NoMemory NoOutput fate

-- The file has changed since it was read. It is as it was before the writing, and at each moment it was so.
pub record FindsChange {I : Type 0} (old new : DiskSeen I) (name : List ℕ) (how : Replacing) (bytes : List ℕ) : Type 0 where
  pub changed : new.changed name
  pub leaves : LeavesOver old new name how bytes

-- The output goes over the file that is read: by --in-place, or by the name of --output.
abbrev pub replaces_input : Line → Bool
replaces_input line = line.in_place
    || (elim line.output [ Some name ↦ bytes_eq (string_bytes name) (string_bytes line.input) | None ↦ false ])

-- Some string of these commands may be undone: a text of them asks for an undo, a redo or a rewind. If the line is to be explained, its
-- strings are kept too, since they are told of. Strings for every page are never undone.
abbrev pub wants_history : Line → List ℕ → Bool
wants_history line commands = not (is_on_pages line.commands) && (line.explain || asks_history commands)

-- how many strings are kept of commands that are had whole: as many as the line says; and if it says no number, none where nothing
-- could undo them, and else all
abbrev pub depth_of : Line → List ℕ → Option ℕ
depth_of line commands =
    elim line.undo [ Some depth ↦ Some depth | None ↦ (if wants_history line commands then None else Some 0) ]

-- the state that a run over this input begins in: it has the line's profile, and its registers hold what the line puts there
abbrev pub first_state : Line → List ℕ → State
first_state line input = record (paged_beginning (page_lines_of line input) input) { profile = line.profile; registers = registers_of line }

-- the history that it begins with
abbrev pub history_over : Line → Option ℕ → List ℕ → History
history_over line depth input = history_from depth (first_state line input)

-- The most steps that a string may take over an input of so many bytes: as many as the line says. If it says no number they are a
-- million, and a thousand more for each byte if an option gives the commands.
abbrev pub limit_of : Line → ℕ → ℕ
limit_of line length = elim line.limit [
  | Some limit ↦ limit
  | None ↦ if are_awaited line.commands then 1000000 else 1000000 + 1000 * length
]

-- Commands of standard input are served in TECO's manner: the code of each error is shown among what they type. Those that an option
-- gives are served in a tool's manner, and no code is shown.
abbrev pub manner_of : Line → Manner
manner_of line = record { prompt = line.prompt; shows_codes = are_awaited line.commands }

-- the steps of a string over an input of so many bytes, and its seconds if they are given
abbrev pub bounds_of : Line → ℕ → Bounds
bounds_of line length = record { steps = limit_of line length; seconds = line.seconds }

-- The commands were served over an input, from its first state, by the limit that the line has for it, its seconds, manner, pages and
-- depth. This ended so, with this output.
pub record ServesInput (line : Line) (is_input : List ℕ → Type 0) (commands : CommandsSeen)
    (term : TerminalSeen) (served : Served) (output : List ℕ) : Type 0 where
  pub input : List ℕ
  pub input_is : is_input input
  pub history : History
  pub serves : Serves (allowance (bounds_of line (length input)) commands.asked) (manner_of line) commands.gave commands.ended term.showed
      (history_over line commands.depth input) history served
  pub output_is : output ≡ (present history).output

-- What a run may have done. How it ends says which of these it did.
pub record Doings : Type 1 where
  -- there was no input: why, by the fate
  pub lacks : Fate → Type 0
  -- the input was to be edited in place, and is no regular file
  pub refuses : Type 0
  -- nothing was read of the commands or shown
  pub idle : Type 0
  -- nothing was written
  pub keeps : Type 0
  -- the commands were served, and that ended so with this output
  pub serves : Served → List ℕ → Type 0
  -- the output was written
  pub writes : List ℕ → Type 0
  -- writing the output failed, or keeping the old bytes before that
  pub fails : List ℕ → Fate → Type 0
  -- the output was to be written over a file that has these bytes already
  pub same : List ℕ → Type 0
  -- the output was to be written over a file that has changed since it was read
  pub changed : List ℕ → Type 0
  -- this could not be kept of the file that the output was written over
  pub unkept : Option Unkept → Type 0

-- How a run ends, and what it has done then.
abbrev pub EndsBy : Doings → Fate → Type 0
-- the file of the commands is opened before
EndsBy run (NoCommands reason) = ⊥
EndsBy run (NoInput reason) = run.lacks (NoInput reason) × run.idle × run.keeps
EndsBy run NotRegular = run.refuses × run.idle × run.keeps
EndsBy run LargeInput = run.lacks LargeInput × run.idle × run.keeps
-- memory was refused before the serving, or to the writing
EndsBy run NoMemory = (run.idle × run.keeps)
    ⊎ ((output : List ℕ) × run.serves served.Exit output × run.fails output NoMemory)
EndsBy run (NoOutput reason) = (output : List ℕ) × run.serves served.Exit output × run.fails output (NoOutput reason)
EndsBy run (NoBackup reason) = (output : List ℕ) × run.serves served.Exit output × run.fails output (NoBackup reason)
-- what was to be written over stays as it is
EndsBy run Changed = (output : List ℕ) × run.serves served.Exit output × run.changed output
EndsBy run Unchanged = (output : List ℕ) × run.serves served.Exit output × run.same output × run.keeps
-- after an exit the output is written, and of a file that it was written over this could not be kept, or all was
EndsBy run (Lacking unkept) = (output : List ℕ) × run.serves served.Exit output × run.writes output
    × run.unkept (Some unkept)
EndsBy run (Ended served.Exit) = (output : List ℕ) × run.serves served.Exit output × run.writes output
    × run.unkept None
-- and otherwise nothing is
EndsBy run (Ended served.EndOfCommands) = (output : List ℕ) × run.serves served.EndOfCommands output
    × run.keeps
EndsBy run (Ended served.ReadFault) = (output : List ℕ) × run.serves served.ReadFault output × run.keeps
EndsBy run (Ended served.ShowFault) = (output : List ℕ) × run.serves served.ShowFault output × run.keeps
EndsBy run (Ended served.NoMemory) = (output : List ℕ) × run.serves served.NoMemory output × run.keeps

-- what a run over a line may have done, wherever its input comes from and its output goes
abbrev pub doings : Line → InputSeen → OutputSeen → CommandsSeen → TerminalSeen → Doings
doings line input output commands term = record {
  lacks = input.lacks;
  refuses = IsTrue line.in_place × input.is_irregular;
  idle = commands.still × term.still;
  keeps = output.keeps;
  serves = ServesInput line input.is_input commands term;
  writes = λ bytes. (IsTrue (replaces_input line) → output.is_as_read bytes) × output.writes bytes;
  fails = output.fails;
  same = λ bytes. IsTrue (replaces_input line) × output.has bytes;
  changed = λ bytes. IsTrue (replaces_input line) × output.changed bytes;
  unkept = output.unkept;
}

-- what may be done after a serving that ended so, with this output
abbrev pub doings_after : Served → List ℕ → Type 0 → OutputSeen → Doings
doings_after served output over to = record {
  lacks = λ fate. ⊥;
  refuses = ⊥;
  idle = ⊥;
  keeps = to.keeps;
  serves = λ end bytes. (end ≡ served) × (bytes ≡ output);
  writes = λ bytes. (over → to.is_as_read bytes) × to.writes bytes;
  fails = to.fails;
  same = λ bytes. over × to.has bytes;
  changed = λ bytes. over × to.changed bytes;
  unkept = to.unkept;
}

-- A file as the input, and a file as the output, which may be to be kept before it is written.
abbrev pub named_input : {I : Type 0} → DiskSeen I → DiskSeen I → List ℕ → InputSeen
named_input old new name = record {
  lacks = LacksInput old new name;
  is_irregular = IsStream old.files old.streams name;
  is_input = IsInput old.files name;
}

abbrev pub named_output : {I : Type 0} → DiskSeen I → DiskSeen I → List ℕ → Replacing → OutputSeen
named_output old new name how = record {
  keeps = KeepsDisk old new;
  writes = WritesOver old new name how;
  fails = λ bytes fate. FailsToWrite old new name how bytes fate ⊎ FailsToKeep old new name how.suffix fate;
  has = λ bytes. (before : Files) → old.files ≡ Some before → before name ≡ Some bytes;
  is_as_read = λ bytes. new.asked name old.files (λ before now. old.streams name ≡ None → HasDraft name bytes before now);
  changed = FindsChange old new name how;
  unkept = new.unkept;
}

-- The input was read already, and is this.
abbrev pub given_input : List ℕ → InputSeen
given_input bytes = record { lacks = λ fate. ⊥; is_irregular = ⊥; is_input = λ input. input ≡ bytes }

-- The source was read, and that ended by a fault.
pub record FailsToStream {S : Type 0} (source : SourceView S) (old new : S) (fate : Fate) : Type 0 where
  pub fault : InputFault
  pub fault_is : IsFaultOf FILE_LIMIT (Gives source.coming source.bound source.failures old new) fault
  pub fate_is : fate ≡ fate_without_input fault

-- the program's own standard input
abbrev pub standard_input : {S : Type 0} → SourceView S → S → S → InputSeen
standard_input source old new =
    record { lacks = FailsToStream source old new; is_irregular = ⊥; is_input = IsStreamed source old new }

-- a stream, or a file
abbrev pub input_from : Bool → InputSeen → InputSeen → InputSeen
input_from true stream file = stream
input_from false stream file = file

-- Why there is no input from there, which may be to be edited in place: then it may be no regular file.
abbrev pub Lacks : Bool → InputSeen → Fate → Type 0
Lacks in_place input fate = input.lacks fate ⊎ ((fate ≡ NotRegular) × IsTrue in_place × input.is_irregular)

-- A beginning of the bytes was put, and then the terminal failed, which doesn't tell why.
pub record FailsToPut (old new : Screen) (bytes : List ℕ) (fate : Fate) : Type 0 where
  pub front : List ℕ
  pub beginning : IsFrontOf front bytes
  pub shows : Shows old new front true
  pub fate_is : fate ≡ NoOutput WriteFailed

-- The program's own standard output: `between` is the terminal after the serving, so the output comes after all
-- that was typed.
abbrev pub standard_output : {T : Type 0} → (T → Screen) → T → T → OutputSeen
standard_output screen between new = record {
  keeps = new ≡ between;
  writes = λ bytes. Shows (screen between) (screen new) bytes false;
  fails = FailsToPut (screen between) (screen new);
  has = λ bytes. ⊥;
  is_as_read = λ bytes. ⊤;
  changed = λ bytes. ⊥;
  unkept = λ what. what ≡ None;
}

-- A run ends so, with its output in the file of this name, or on the terminal; then no file changes.
abbrev pub EndsInFile : {I T : Type 0} → Line → List ℕ → RunSeen I T → Fate → Type 0
EndsInFile line name run fate = EndsBy
    (doings line run.input (named_output run.before run.after name (replacing_of line)) run.commands
    (terminal_seen run.screen run.old run.new)) fate

pub record EndsOnTerminal {I T : Type 0} (line : Line) (run : RunSeen I T) (fate : Fate) : Type 0 where
  pub between : T
  pub ends : EndsBy (doings line run.input (standard_output run.screen between run.new) run.commands
      (terminal_seen run.screen run.old between)) fate
  pub files : KeepsDisk run.before run.after

abbrev pub EndsIn : {I T : Type 0} → Bool → Line → List ℕ → RunSeen I T → Fate → Type 0
EndsIn true line name run fate = EndsOnTerminal line run fate
EndsIn false line name run fate = EndsInFile line name run fate

-- After a serving a run ends so, with its output on the terminal, or in the file of this name.
abbrev pub FinishesIn : {I T : Type 0} → Bool → Served → List ℕ → Bool → Replacing → List ℕ → DiskSeen I → DiskSeen I
    → (T → Screen) → T → T → Fate → Type 0
FinishesIn true served output over how name before after screen old new fate =
    EndsBy (doings_after served output ⊥ (standard_output screen old new)) fate × KeepsDisk before after
FinishesIn false served output over how name before after screen old new fate =
    EndsBy (doings_after served output (IsTrue over) (named_output before after name how)) fate × (new ≡ old)

-- A run of the program over this input of its line ends so.
pub record Edits {I T : Type 0} (line : Line) (input : List ℕ) (run : RunSeen I T) (fate : Fate) : Type 0 where
  pub ends : EndsIn (is_standard_output (output_of line input)) line (output_of line input) run fate

-- The status is that of the fate, and its line is told on standard error; or that there is no memory for the
-- line, where there is one.
pub record Concludes (line : Line) (input : List ℕ) (fate : Fate) (old new : Screen) (status : ℕ) : Type 0 where
  pub status_is : status ≡ status_of fate
  pub told : Tells old new (text_of line input fate)
      ⊎ ((text_of line input fate ≢ []) × Tells old new (said (codes "no memory")))

-- how a run ends whose output is written, if this could not be kept of the file that it was written over
abbrev pub fate_written : Option Unkept → Fate
fate_written None = Ended served.Exit
fate_written (Some unkept) = Lacking unkept
