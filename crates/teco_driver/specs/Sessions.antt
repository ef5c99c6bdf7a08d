-- A run over an input of the line whose session is kept in a file.
use Rattle.teco_driver.specs.declared.word_source.WordSource.{WordSource}
use Rattle.std.specs.Prelude.{◌≡◌, ◌⊎◌, ℕ, List, length, Bool, true, false, Option, Some, None}
use Rattle.teco_core.specs.declared.profile.Profile.{Profile}
use Rattle.teco_core.specs.declared.profile.Profile.TheVariants.{Named, Wide}
use Rattle.teco_cli.specs.StreamNames.{is_standard_input, is_standard_output}
use Rattle.teco_cli.specs.declared.line.Line.{Line}
use Rattle.teco_driver.specs.Given.{HostView, IsIdle, word_seen}
use Rattle.teco_driver.specs.Paging.{page_lines_of}
use Rattle.teco_driver.specs.Backups.{replacing_of}
use Rattle.teco_driver.specs.Run.{Concludes, FinishesIn, Lacks, bounds_of, input_from, manner_of, named_input, replaces_input, standard_input}
use Rattle.teco_driver.specs.Seen.{CommandsSeen, InputSeen, commands_seen}
use Rattle.teco_driver.specs.SessionLines.{TellsOrLacks, again_words, fault_line, opening_lines, session_name, not_kept_line}
use Rattle.teco_driver.specs.declared.giving.Feed.{Feed}
use Rattle.teco_driver.specs.declared.giving.Feed.TheVariants.{Stream}
use Rattle.teco_driver.specs.declared.giving.Feed.TheVariants as feed
use Rattle.teco_driver.specs.declared.host.Host.{Host}
use Rattle.teco_driver.specs.declared.keeping.SessionEnd.{SessionEnd}
use Rattle.teco_driver.specs.declared.keeping.SessionEnd.TheVariants.{Closed, Ended, Broken}
use Rattle.teco_fs.specs.Seen.{DiskSeen, KeepsDisk, KeepsStream}
use Rattle.teco_fs.specs.State.{DiskState}
use Rattle.teco_io.specs.Terminal.{Screen, Shows}
use Rattle.teco_journal.specs.Heads.{Beginning}
use Rattle.teco_recorder.specs.Again.{HeardBy, HearsHeld, OpensHeard}
use Rattle.teco_recorder.specs.Opening.{OpenSession, StaysClosed}
use Rattle.teco_recorder.specs.declared.fault.OpenFault.{OpenFault}
use Rattle.teco_recorder.specs.declared.opening.Asked.{Asked}
use Rattle.teco_recorder.specs.Recording.{IsRecorded, KeptFile, recording}
use Rattle.teco_serve.specs.Ending.{output_of}
use Rattle.teco_serve.specs.Exchange.{allowance}
use Rattle.teco_serve.specs.Serving.{Serves}
use Rattle.teco_serve.specs.declared.fate.Fate.{Fate}
use Rattle.teco_serve.specs.declared.fate.Fate.TheVariants as fate
use Rattle.teco_serve.specs.declared.served.Served.{Served}
use Rattle.teco_session.specs.History.{History, present}

-- a disk as a recorder sees it, which knows nothing of failures and of what was kept
abbrev pub as_state : {I : Type 0} → DiskSeen I → DiskState
as_state seen = record {
  files = seen.files;
  streams = seen.streams;
  left = seen.left;
  failures = 0;
  gave = seen.gave;
  kept = λ name. ⊥;
  unremoved = λ name. ⊥;
  changed = seen.changed;
  unkept = seen.unkept;
}

-- what the line begins a session with over this input
abbrev pub origin_by : Line → List ℕ → Beginning
origin_by line input = record { profile = line.profile; lines = page_lines_of line input; depth = line.undo; input = input }

-- the profile that a line asks for: with no --wide it asks for none
abbrev pub asked_profile : Profile → Option Profile
asked_profile Named = None
asked_profile Wide = Some Wide

-- what the line asks of a session that goes on
abbrev pub asked_by : Line → Asked
asked_by line = record { profile = asked_profile line.profile; lines = line.page_lines; depth = line.undo }

-- where the input comes from: what there is of it on standard input, or on the disk
abbrev pub input_seen : {D I S A T : Type 0} → HostView D I S T → List ℕ → Host S A T D → S → D → InputSeen
input_seen view name old commands disk = input_from (is_standard_input name) (standard_input view.stream old.commands commands)
    (named_input (view.disk old.disk) (view.disk disk) name)

-- Before so many steps were run again it was told, if they were many.
abbrev pub TellsAgain : {E : Type 0} → (E → Screen) → Line → E → E → ℕ → Type 0
TellsAgain errors line told telling steps = TellsOrLacks (errors told) (errors telling) (again_words (session_name line) steps)

-- The input was read, and the session of the file was opened over it: begun, or gone on with. Of that some lines were told, or none.
pub record OpensOver {D I S A T E : Type 0} (view : HostView D I S T) (errors : E → Screen) (line : Line) (name : List ℕ)
    (old : Host S A T D) (commands : S) (disk : D) (told telling : E) (length_read : ℕ) (is : OpenSession) : Type 0 where
  pub read : D
  pub input : List ℕ
  pub keeps : KeepsDisk (view.disk old.disk) (view.disk read)
  pub input_is : (input_seen view name old commands read).is_input input
  pub length_is : length_read ≡ length input
  pub between : E
  pub opens : OpensHeard (between ≡ told) (TellsAgain errors line told between) (origin_by line input) (asked_by line) (session_name line)
      (as_state (view.disk read)) (as_state (view.disk disk)) is
  pub tells : TellsOrLacks (errors between) (errors telling) (opening_lines line is.torn is.records is.history.cursor)

-- For this reason the file could not be opened, or its session is not gone on with. Nothing that it told is lost. That its strings are run
-- again may have been told.
pub record StaysShut {D I S A T E : Type 0} (view : HostView D I S T) (errors : E → Screen) (line : Line) (name : List ℕ)
    (old new : Host S A T D) (told telling : E) (fault : OpenFault) : Type 0 where
  pub read : D
  pub input : List ℕ
  pub keeps : KeepsDisk (view.disk old.disk) (view.disk read)
  pub input_is : (input_seen view name old new.commands read).is_input input
  pub closed : StaysClosed (origin_by line input) (session_name line) (as_state (view.disk read)) (as_state (view.disk new.disk))
  pub tells : HeardBy fault (telling ≡ told) (HearsHeld (TellsAgain errors line told telling) (session_name line) (as_state (view.disk read)))
  pub still : new.terminal ≡ old.terminal

-- There is no input, or no memory for the run: why, by how it ends.
pub record HasNoInput {D I S A T : Type 0} (view : HostView D I S T) (line : Line) (name : List ℕ) (old new : Host S A T D) (end : Fate)
    : Type 0 where
  pub lacks : Lacks line.in_place (input_seen view name old new.commands new.disk) end ⊎ (end ≡ fate.NoMemory)
  pub idle : IsIdle view old new

-- No command was served. Where there is no input, nothing was told.
abbrev pub StaysUnserved : {D I S A T E : Type 0} → HostView D I S T → (E → Screen) → Line → List ℕ → Host S A T D → Host S A T D → E → E
    → SessionEnd → Type 0
StaysUnserved view errors line name old new told telling (Closed fault) = StaysShut view errors line name old new told telling fault
StaysUnserved view errors line name old new told telling (Ended end) = HasNoInput view line name old new end × (telling ≡ told)
StaysUnserved view errors line name old new told telling (Broken reason end) = ⊥

-- The session was opened, and the commands were served over it. Each request that did something had its line in the file before its answer
-- was shown, unless a line could not be written. Then the output was written after an exit.
pub record RunsKept {D I S A T E : Type 0} (view : HostView D I S T) (errors : E → Screen) (line : Line) (name : List ℕ) (given : CommandsSeen)
    (old new : Host S A T D) (told telling : E) (is_broken : Bool) (end : Fate) : Type 0 where
  pub opened : D
  pub length_read : ℕ
  pub is : OpenSession
  pub opens : OpensOver view errors line name old new.commands opened told telling length_read is
  pub served : D
  pub term : T
  pub left : KeptFile
  pub last : History
  pub ended : Served
  pub serves : Serves (allowance (bounds_of line length_read) given.asked) (manner_of line) given.gave given.ended
      (Shows (view.screen old.terminal) (view.screen term)) is.history last ended
  pub recorded : IsRecorded (recording (as_state (view.disk opened)) is.file false) (recording (as_state (view.disk served)) left is_broken)
      is.history last
  pub finishes : FinishesIn (is_standard_output (output_of line name)) ended (present last).output (replaces_input line) (replacing_of line)
      (output_of line name) (view.disk served) (view.disk new.disk) view.screen term new.terminal end

-- After a serving the output was written, and the run ended so: as broken, if a line of its session could not be written.
abbrev pub FinishesKept : {I T : Type 0} → Line → List ℕ → Served → List ℕ → Bool → DiskSeen I → DiskSeen I → (T → Screen) → T → T → SessionEnd
    → Type 0
FinishesKept line to served output is_broken before after screen old new (Closed fault) = ⊥
FinishesKept line to served output is_broken before after screen old new (Ended end) = (is_broken ≡ false)
    × FinishesIn (is_standard_output to) served output (replaces_input line) (replacing_of line) to before after screen old new end
FinishesKept line to served output is_broken before after screen old new (Broken reason end) = (is_broken ≡ true)
    × FinishesIn (is_standard_output to) served output (replaces_input line) (replacing_of line) to before after screen old new end

-- It has run so, by how it ended.
abbrev pub RunsSession : {D I S A T E : Type 0} → HostView D I S T → (E → Screen) → Line → List ℕ → CommandsSeen → Host S A T D → Host S A T D
    → E → E → SessionEnd → Type 0
RunsSession view errors line name given old new told telling (Closed fault) = ⊥
RunsSession view errors line name given old new told telling (Ended end) = RunsKept view errors line name given old new told telling false end
RunsSession view errors line name given old new told telling (Broken reason end) =
    RunsKept view errors line name given old new told telling true end

-- A run over this input by the commands that were given, which ended so.
abbrev pub EditsKept : {D I S A T E : Type 0} → HostView D I S T → (E → Screen) → Line → List ℕ → CommandsSeen → Host S A T D → Host S A T D
    → E → E → SessionEnd → Type 0
EditsKept view errors line name given old new told telling end =
    (StaysUnserved view errors line name old new told telling end × given.still)
    ⊎ RunsSession view errors line name given old new told telling end

-- By commands in memory.
pub record EditsKeptByBytes {D I S A T E : Type 0} (view : HostView D I S T) (errors : E → Screen) (line : Line) (name bytes : List ℕ)
    (old new : Host S A T D) (told telling : E) (end : SessionEnd) : Type 0 where
  pub kept : KeepsStream name old.commands new.commands
  pub first : WordSource
  pub last : WordSource
  pub coming : word_seen.coming first ≡ Some bytes
  pub keeps : EditsKept view errors line name (commands_seen word_seen first last view.asked line.undo) old new told telling end

-- By the commands of standard input.
abbrev pub EditsKeptByStream : {D I S A T E : Type 0} → HostView D I S T → (E → Screen) → Line → List ℕ → Host S A T D → Host S A T D → E → E
    → SessionEnd → Type 0
EditsKeptByStream view errors line name old new told telling end =
    EditsKept view errors line name (commands_seen view.stream old.commands new.commands view.asked line.undo) old new told telling end

-- A run over this input by the commands that come from there.
abbrev pub EditsKeptGiven : {D I S A T E : Type 0} → HostView D I S T → (E → Screen) → Line → Feed → List ℕ → Host S A T D → Host S A T D → E → E
    → SessionEnd → Type 0
EditsKeptGiven view errors line Stream name old new told telling end = EditsKeptByStream view errors line name old new told telling end
EditsKeptGiven view errors line (feed.Bytes bytes) name old new told telling end =
    EditsKeptByBytes view errors line name bytes.now old new told telling end

-- How it ended is told. If its session is not whole, the status is 1.
abbrev pub ConcludesKept : Line → List ℕ → SessionEnd → Screen → Screen → ℕ → Type 0
ConcludesKept line name (Closed fault) old new status = (status ≡ 1) × TellsOrLacks old new (fault_line line name fault)
ConcludesKept line name (Ended end) old new status = Concludes line name end old new status
ConcludesKept line name (Broken reason end) old new status = (status ≡ 1) × ((mid : Screen) × (other : ℕ)
    × TellsOrLacks old mid (not_kept_line line reason) × Concludes line name end mid new other)

-- A run over this input whose session is kept, and what was told of it. `W` is all that a run changes.
pub record LinkKept {W E : Type 0} (keeps : List ℕ → W → W → E → SessionEnd → Type 0) (telling : W → E) (errors : E → Screen) (line : Line)
    (name : List ℕ) (old new : W) (status : ℕ) : Type 0 where
  pub between : E
  pub end : SessionEnd
  pub run : keeps name old new between end
  pub concludes : ConcludesKept line name end (errors between) (errors (telling new)) status

-- A run over this input by the commands that come from there, whose session is kept.
abbrev pub LinkKeptGiven : {D I S A T E : Type 0} → HostView D I S T → (E → Screen) → Line → Feed → List ℕ
    → Host S A T D × E → Host S A T D × E → ℕ → Type 0
LinkKeptGiven {D} {I} {S} {A} {T} {E} view errors line feed = LinkKept {W = Host S A T D × E}
    (λ name old new between end. EditsKeptGiven view errors line feed name old.0 new.0 old.1 between end) (λ w. w.1) errors line
