-- How a session's file is opened: it is begun, or gone on with.
use Rattle.std.specs.Prelude.{◌≡◌, ◌⊎◌, ℕ, List, [], ◌∷◌, ◌++◌, Bool, true, false, Option, Some, None, length, not, ◌&&◌, if◌then◌else◌}
use Rattle.std.specs.Option.{ForSome}
use Rattle.teco_fs.specs.Disk.{Files, SameBut}
use Rattle.teco_fs.specs.State.{DiskState, FilesChange, FilesPass}
use Rattle.teco_io.specs.Terminal.{IsFrontOf}
use Rattle.teco_journal.specs.declared.head_reader.HeadFault.TheVariants.{Torn as TornHead}
use Rattle.teco_journal.specs.declared.reader.Ending.{Ending}
use Rattle.teco_journal.specs.declared.reader.Ending.TheVariants as ending
use Rattle.teco_journal.specs.Events.{Event, ran, undid, redid, cut, forgot}
use Rattle.teco_journal.specs.Files.{Holds}
use Rattle.teco_journal.specs.HeadFaults.{HeadFails}
use Rattle.teco_journal.specs.Heads.{Beginning, file_of, first_check, whole_head}
use Rattle.teco_journal.specs.Lines.{check_after}
use Rattle.teco_journal.specs.Reading.{EndsAs}
use Rattle.teco_recorder.specs.declared.opening.Asked.{Asked}
use Rattle.teco_recorder.specs.Recording.{KeptFile}
use Rattle.teco_replay.specs.Begun.{begun_history}
use Rattle.teco_replay.specs.Told.{after_event, after_events}
use Rattle.teco_session.specs.History.{History, present}

-- the history that a session begins with, and the one that its events lead to
abbrev pub first_history : Beginning → History
first_history beginning = begun_history beginning.profile beginning.lines beginning.depth beginning.input

abbrev pub is_run_event : Event → Bool
is_run_event (ran steps text) = true
is_run_event undid = false
is_run_event redid = false
is_run_event (cut steps) = false
is_run_event forgot = false

-- An event was an exit: a string made the session done.
abbrev pub is_exit_event : History → Event → Bool
is_exit_event old event = is_run_event event && (not (present old).is_done && (present (after_event old event)).is_done)

-- the output of the last exit among some events, or what it was before
unfoldable pub last_output : History → List Event → Option (List ℕ) → Option (List ℕ)
last_output old [] last = last
last_output old (event ∷ events) last = last_output (after_event old event) events
    (if is_exit_event old event then Some (present (after_event old event)).output else last)

-- The input is the one that the session began over, or its last output.
abbrev pub IsExpected : Beginning → List Event → List ℕ → Type 0
IsExpected beginning events input =
    (input ≡ beginning.input) ⊎ (last_output (first_history beginning) events None ≡ Some input)

-- A beginning is what is asked for: this profile, so many lines of a page and this depth, if any are.
pub record IsAsked (asked : Asked) (beginning : Beginning) : Type 0 where
  pub profile : ForSome asked.profile (λ profile. beginning.profile ≡ profile)
  pub lines : ForSome asked.lines (λ lines. beginning.lines ≡ lines)
  pub depth : ForSome asked.depth (λ depth. beginning.depth ≡ Some depth)

-- A reading ended at the end of the bytes, or at a line that has no end.
abbrev pub IsGood : Ending → Type 0
IsGood ending.Whole = Unit {0}
IsGood ending.Torn = Unit {0}
IsGood ending.Changed = ⊥
IsGood ending.Unknown = ⊥

-- Bytes hold these events. Behind their lines there are so many bytes, which are nothing, or a line that has no end.
pub record HasLines (beginning : Beginning) (events : List Event) (torn : ℕ) (bytes : List ℕ) : Type 0 where
  pub holds : Holds bytes beginning events
  pub rest : List ℕ
  pub front : bytes ≡ file_of beginning events ++ rest
  pub end : Ending
  pub good : IsGood end
  pub ends : EndsAs (check_after (first_check beginning) events) rest end
  pub count : length rest ≡ torn

-- There is no file of this name, or one that is the front of a head and ends before it does.
abbrev pub TellsNothing : List ℕ → Files → Type 0
TellsNothing name files = (had : List ℕ) → files name ≡ Some had → HeadFails had TornHead

-- The file is as it was; or it told nothing, and now it has a beginning of this head. No other file has changed.
pub record KeepsOrBegins (beginning : Beginning) (name : List ℕ) (before now : Files) : Type 0 where
  pub file : (now name ≡ before name)
      ⊎ (TellsNothing name before × (front : List ℕ) × IsFrontOf front (whole_head beginning) × (now name ≡ Some front))
  pub others : SameBut name before now

-- A line that has no end is cut off behind the events of a file. No other file has changed.
pub record CutsTorn (name : List ℕ) (before now : Files) : Type 0 where
  pub beginning : Beginning
  pub events : List Event
  pub torn : ℕ
  pub had : List ℕ
  pub lines : HasLines beginning events torn had
  pub was : before name ≡ Some had
  pub is : now name ≡ Some (file_of beginning events)
  pub others : SameBut name before now

-- There was no file, or one that ends before a head does. At each moment it was as before, or had a beginning of the head.
pub record Begins (beginning : Beginning) (name : List ℕ) (old new : DiskState) : Type 0 where
  pub before : FilesChange old new (λ before after. TellsNothing name before)
  pub moments : FilesPass old new (KeepsOrBegins beginning name)

-- The file had the lines of these events, and nothing behind them but a line that has no end. At each moment it had all of them.
pub record GoesOn (beginning : Beginning) (events : List Event) (torn : ℕ) (name : List ℕ) (old new : DiskState) : Type 0 where
  pub had : List ℕ
  pub lines : HasLines beginning events torn had
  pub before : FilesChange old new (λ before after. before name ≡ Some had)
  pub moments : FilesPass old new (λ before now. SameBut name before now
      × ((now name ≡ before name) ⊎ (now name ≡ Some (file_of beginning events))))

-- what is open: the file, the history of its session, how many records were done again, and how many bytes were cut off behind them
pub record OpenSession : Type 0 where
  pub file : KeptFile
  pub history : History
  pub records : ℕ
  pub torn : ℕ

-- The file has just the lines of these events, behind which the next is written, and the session has the history that they tell. The input
-- that is there is an expected one. A session that goes on is the one that was asked for.
pub record Opens (start : Beginning) (asked : Asked) (name : List ℕ) (old new : DiskState) (is : OpenSession) : Type 0 where
  pub beginning : Beginning
  pub events : List Event
  pub found : ((beginning ≡ start) × (events ≡ []) × (is.torn ≡ 0) × Begins beginning name old new)
      ⊎ (IsAsked asked beginning × GoesOn beginning events is.torn name old new)
  pub after : FilesChange old new (λ before after. SameBut name before after × (after name ≡ Some (file_of beginning events)))
  pub streams : new.streams ≡ old.streams
  pub file_is : is.file ≡ record { name = name; check = check_after (first_check beginning) events }
  pub history_is : is.history ≡ after_events (first_history beginning) events
  pub records_are : is.records ≡ length events
  pub input : IsExpected beginning events start.input

-- Nothing that the file told is lost. It is as it was; or it told nothing, and has a beginning of the head that it was to have. At each
-- moment that was so, or what a writing that was cut off had left behind its events was cut off.
pub record StaysClosed (start : Beginning) (name : List ℕ) (old new : DiskState) : Type 0 where
  pub kept : FilesChange old new (KeepsOrBegins start name)
  pub moments : FilesPass old new (λ before now. KeepsOrBegins start name before now ⊎ CutsTorn name before now)
  pub streams : new.streams ≡ old.streams
