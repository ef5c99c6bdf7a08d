-- What is written to the file of a session as requests are done.
use Rattle.std.specs.Prelude.{◌≡◌, ◌≢◌, ◌⊎◌, List, ℕ, None, Some, Bool, true, false}
use Rattle.teco_fs.specs.Disk.{Appends, AppendsFront, Files, SameBut}
use Rattle.teco_io.specs.Terminal.{IsFrontOf}
use Rattle.teco_fs.specs.State.{DiskState, FilesChange, FilesPass}
use Rattle.teco_journal.specs.Events.{Event}
use Rattle.teco_journal.specs.Lines.{check_after, check_of, line_of, words_of, written}
use Rattle.teco_replay.specs.Told.{AllHappen, after_events}
use Rattle.teco_session.specs.History.{History}
use Rattle.teco_serve.specs.Heard.{Heard}
use Rattle.teco_serve.specs.Heard.Heard.{Did, Ran, Moved, Left, Finished}

-- the file: its name, and the check behind which its next line is written
pub record KeptFile : Type 0 where
  pub name : List ℕ
  pub check : List ℕ

-- the line of an event there, and the file after it
abbrev pub line_in : KeptFile → Event → List ℕ
line_in file event = line_of file.check (words_of event)

abbrev pub after_line : KeptFile → Event → KeptFile
after_line file event = record file { check = check_of file.check (words_of event) }

-- If there was a file of this name, it has these bytes. No other name has changed.
pub record HasIfThere (name bytes : List ℕ) (before after : Files) : Type 0 where
  pub whole : before name ≢ None → after name ≡ Some bytes
  pub others : SameBut name before after

-- If there was a file of this name, it is as it was, or has a beginning of these bytes. No other name has changed.
pub record IsBegun (name bytes : List ℕ) (before after : Files) : Type 0 where
  pub front : before name ≢ None
      → (after name ≡ before name) ⊎ ((front : List ℕ) × IsFrontOf front bytes × (after name ≡ Some front))
  pub others : SameBut name before after

-- what is seen of a recorder: its disk, its file, and whether a line could not be written
pub record Recording : Type 1 where
  pub disk : DiskState
  pub file : KeptFile
  pub is_broken : Bool

abbrev pub recording : DiskState → KeptFile → Bool → Recording
recording disk file is_broken = record { disk = disk; file = file; is_broken = is_broken }

-- Nothing is written.
pub record Rests (old new : Recording) : Type 0 where
  pub files : new.disk.files ≡ old.disk.files
  pub streams : new.disk.streams ≡ old.disk.streams
  pub moments : (files : Files) → new.disk.left files → old.disk.left files
  pub file : new.file ≡ old.file
  pub broken : new.is_broken ≡ old.is_broken

-- Nothing is written, but what was may not outlast a crash of the machine.
pub record Settles (old new : Recording) : Type 0 where
  pub files : new.disk.files ≡ old.disk.files
  pub streams : new.disk.streams ≡ old.disk.streams
  pub moments : (files : Files) → new.disk.left files → old.disk.left files
  pub file : new.file ≡ old.file
  pub sound : new.is_broken ≡ false → old.is_broken ≡ false
  pub broken : old.is_broken ≡ true → new.is_broken ≡ true

-- These bytes are written after what the file has; or a beginning of them, if a write failed. At each moment there is a beginning of them.
pub record Extends (old new : Recording) (bytes : List ℕ) : Type 0 where
  pub name : new.file.name ≡ old.file.name
  pub whole : new.is_broken ≡ false → FilesChange old.disk new.disk (Appends old.file.name bytes)
  pub front : FilesChange old.disk new.disk (AppendsFront old.file.name bytes)
  pub moments : FilesPass old.disk new.disk (AppendsFront old.file.name bytes)
  pub streams : new.disk.streams ≡ old.disk.streams

-- An event has its line. After a line that could not be written nothing is.
pub record Records (old new : Recording) (event : Event) : Type 0 where
  pub rests : old.is_broken ≡ true → Rests old new
  pub extends : old.is_broken ≡ false → Extends old new (line_in old.file event)
  pub check : new.is_broken ≡ false → new.file ≡ after_line old.file event

-- what is written where a recorder hears of this
abbrev pub RecordsHeard : Recording → Recording → Heard → Type 0
RecordsHeard old new (Did event) = Records old new event
RecordsHeard old new (Ran text begins answered bounds session) = Rests old new
RecordsHeard old new (Moved begins code session) = Rests old new
RecordsHeard old new (Left bytes broken_off) = Rests old new
RecordsHeard old new (Finished line input fate) = Rests old new

-- Events have their lines, one behind another.
pub record RecordsAll (old new : Recording) (events : List Event) : Type 0 where
  pub rests : old.is_broken ≡ true → Rests old new
  pub extends : old.is_broken ≡ false → Extends old new (written old.file.check events)
  pub check : new.is_broken ≡ false → new.file.check ≡ check_after old.file.check events
  pub sound : new.is_broken ≡ false → old.is_broken ≡ false

-- What was done has led from the old history to the new one, and the lines of just that were written.
pub record IsRecorded (old new : Recording) (before after : History) : Type 0 where
  pub events : List Event
  pub leads : after ≡ after_events before events
  pub happen : AllHappen before events
  pub lines : RecordsAll old new events
