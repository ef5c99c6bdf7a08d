-- One string of the session that a file keeps.
use Rattle.std.specs.Prelude.{◌≡◌, ◌⊎◌, ℕ, ◌+◌, ◌-◌, ◌<◌, ◌++◌, Bool, true, false, List, length, take, Option, Some, None}
use Rattle.teco_fs.specs.Disk.{Files}
use Rattle.teco_fs.specs.Reading.{IsInput}
use Rattle.teco_fs.specs.Seen.{DiskSeen}
use Rattle.teco_journal.specs.Events.{Event}
use Rattle.teco_journal.specs.Files.{Holds}
use Rattle.teco_journal.specs.HeadFaults.{HeadFails}
use Rattle.teco_journal.specs.Heads.{Beginning, file_of, first_check}
use Rattle.teco_journal.specs.Lines.{check_after}
use Rattle.teco_journal.specs.Reading.{EndsAs}
use Rattle.teco_journal.specs.declared.head_reader.HeadFault.TheVariants as head
use Rattle.teco_journal.specs.declared.reader.Ending.{Ending as JournalEnding}
use Rattle.teco_journal.specs.declared.reader.Ending.TheVariants as end
use Rattle.teco_replay.specs.Begun.{begun_history, begun_state}
use Rattle.teco_replay.specs.Told.{AllHappen, after_events}
use Rattle.teco_session.specs.History.{History, note_at}
use Rattle.teco_store.specs.State.{State}
use Rattle.teco_debugger.specs.Reading.{IsNotRead}
use Rattle.teco_debugger.specs.Walk.{KeptWalk}
use Rattle.teco_debugger.specs.declared.ending.Ending.{Ending}
use Rattle.teco_debugger.specs.declared.ending.Ending.TheVariants.{NoMemory, NoString, NoText}
use Rattle.teco_debugger.specs.declared.kept.StringFault.{StringFault}
use Rattle.teco_debugger.specs.declared.kept.StringFault.TheVariants as fault

-- Nothing comes behind the lines of a file but one that has no end, as after a crash.
abbrev pub is_good : JournalEnding → Bool
is_good end.Whole = true
is_good end.Torn = true
is_good end.Changed = false
is_good end.Unknown = false

-- The bytes hold what a session began with, and what was done to it. Behind these lines the reading ended so, before so many bytes.
pub record HasRecordsTo (beginning : Beginning) (events : List Event) (torn : ℕ) (ending : JournalEnding) (bytes : List ℕ) : Type 0 where
  pub holds : Holds bytes beginning events
  pub rest : List ℕ
  pub front : bytes ≡ file_of beginning events ++ rest
  pub ends : EndsAs (check_after (first_check beginning) events) rest ending
  pub count : length rest ≡ torn

-- The same, with nothing behind them but a line that has no end.
abbrev pub HasRecords : Beginning → List Event → ℕ → List ℕ → Type 0
HasRecords beginning events torn bytes = (ending : JournalEnding) × (is_good ending ≡ true) × HasRecordsTo beginning events torn ending bytes

-- the state with which the session of a file begins
abbrev pub begun_by : Beginning → State
begun_by beginning = begun_state beginning.profile beginning.lines beginning.input

-- its history before the first string, without the bound of its depth
abbrev pub history_before : Beginning → History
history_before beginning = begun_history beginning.profile beginning.lines None beginning.input

-- The history of all strings that a file tells, also of those that a depth has let go.
abbrev pub whole_history : Beginning → List Event → History
whole_history beginning events = after_events (history_before beginning) events

abbrev pub cursor_at : History → ℕ → History
cursor_at h i = record h { cursor = i }

-- The place of the string of this number, from 1 on. Without one it is that of the last string that is not undone, or of the first if all are.
abbrev pub IsPlace : Option ℕ → History → ℕ → Type 0
IsPlace (Some number) h i = (number ≡ i + 1) × (i < length h.notes)
IsPlace None h i = (i ≡ h.cursor - 1) × (i < length h.notes)

-- A walk stands before the first step of the string at a place of a history, in the state that the strings before it left.
pub record IsWalkAt (h : History) (i : ℕ) (walk : KeptWalk) : Type 0 where
  pub first : walk.first ≡ h.first
  pub before : walk.before ≡ take i h.notes
  pub text : walk.text ≡ (note_at h i).text
  pub steps : walk.steps ≡ 0

-- The bytes of a session's file, and the walk over its string of this number.
pub record HasString (bytes : List ℕ) (number : Option ℕ) (walk : KeptWalk) (torn : ℕ) : Type 0 where
  pub beginning : Beginning
  pub events : List Event
  pub lines : HasRecords beginning events torn bytes
  pub place : ℕ
  pub place_is : IsPlace number (whole_history beginning events) place
  pub walk_is : IsWalkAt (whole_history beginning events) place walk

-- The walk is over the string of this number in the session that the file of this name keeps.
pub record IsOfSession (files : Option Files) (name : List ℕ) (number : Option ℕ) (walk : KeptWalk) (torn : ℕ) : Type 0 where
  pub bytes : List ℕ
  pub had : IsInput files name bytes
  pub string : HasString bytes number walk torn

-- Why a history has no such string: it has none at all, or so many, and none of this number.
abbrev pub LacksPlace : Option ℕ → History → StringFault → Type 0
LacksPlace number h fault.NoStrings = length h.notes ≡ 0
LacksPlace number h (fault.NoString count) = (count ≡ length h.notes) × ((i : ℕ) → IsPlace number h i → ⊥)
LacksPlace number h _ = ⊥

-- Behind the lines before this one, counted from 1, stands none that was written there.
abbrev pub IsChangedAt : List ℕ → ℕ → Type 0
IsChangedAt bytes number = (beginning : Beginning) × (events : List Event) × (rest : ℕ) × (ending : JournalEnding)
    × (is_good ending ≡ false) × HasRecordsTo beginning events rest ending bytes × (number ≡ length events + 1)

-- Why there is no string of this number in bytes: they have no head of this version, or one that was changed; a line was changed;
-- what the lines tell cannot have happened; or the history that they tell has no such string. A head that was cut off tells no string.
abbrev pub LacksBytes : List ℕ → Option ℕ → StringFault → Type 0
LacksBytes bytes number fault.Version = HeadFails bytes head.Version
LacksBytes bytes number fault.Head = HeadFails bytes head.Changed
LacksBytes bytes number (fault.Changed line) = IsChangedAt bytes line
LacksBytes bytes number fault.Replay = (beginning : Beginning) × (events : List Event) × (torn : ℕ) × HasRecords beginning events torn bytes
    × (AllHappen (history_before beginning) events → ⊥)
LacksBytes bytes number fault.NoStrings = HeadFails bytes head.Torn
    ⊎ ((beginning : Beginning) × (events : List Event) × (torn : ℕ) × HasRecords beginning events torn bytes
    × LacksPlace number (whole_history beginning events) fault.NoStrings)
LacksBytes bytes number (fault.NoString count) = (beginning : Beginning) × (events : List Event) × (torn : ℕ)
    × HasRecords beginning events torn bytes × LacksPlace number (whole_history beginning events) (fault.NoString count)

-- The same as the end of a run; or memory was refused.
abbrev pub LacksWalk : List ℕ → Option ℕ → Ending → Type 0
LacksWalk bytes number (NoString fault) = LacksBytes bytes number fault
LacksWalk bytes number NoMemory = Unit {0}
LacksWalk bytes number _ = ⊥

-- Why a session is not run again: its events cannot have happened, or memory was refused.
abbrev pub LacksRun : Beginning → List Event → Ending → Type 0
LacksRun beginning events (NoString fault.Replay) = AllHappen (history_before beginning) events → ⊥
LacksRun beginning events NoMemory = Unit {0}
LacksRun beginning events _ = ⊥

-- The file of this name is not read, or what it has is no session with such a string.
abbrev pub LacksSession : {I : Type 0} → Option Files → DiskSeen I → List ℕ → Option ℕ → Ending → Type 0
LacksSession files new name number (NoText n fault) = (n ≡ 0) × IsNotRead files new name fault
LacksSession files new name number ending = (bytes : List ℕ) × IsInput files name bytes × LacksWalk bytes number ending
