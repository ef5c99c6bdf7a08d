-- What a session that was resumed is, and what is told of it.
use Rattle.std.specs.Prelude.{◌≡◌, ℕ, List, length, drop}
use Rattle.teco_journal.specs.Events.{Event}
use Rattle.teco_journal.specs.Files.{Holds}
use Rattle.teco_journal.specs.Heads.{Beginning, file_of, first_check}
use Rattle.teco_journal.specs.Lines.{check_after}
use Rattle.teco_journal.specs.Reading.{EndsAs}
use Rattle.teco_journal.specs.declared.reader.Ending.{Ending}
use Rattle.teco_journal.specs.declared.reader.Ending.TheVariants.{Whole, Torn, Changed, Unknown}
use Rattle.teco_replay.specs.Begun.{begun_history}
use Rattle.teco_replay.specs.Told.{after_events}
use Rattle.teco_session.specs.History.{History}
use Rattle.teco_ffi.specs.declared.resuming.Resumed.{Resumed}
use Rattle.teco_ffi.specs.declared.resuming.TheConstants.{WHOLE, TORN, CHANGED, UNKNOWN}

-- the history that these events tell of a session that began so
abbrev pub told_history : Beginning → List Event → History
told_history beginning events = after_events (begun_history beginning.profile beginning.lines beginning.depth beginning.input) events

-- why a reading ended, by a number
abbrev pub ending_number : Ending → ℕ
ending_number Whole = WHOLE
ending_number Torn = TORN
ending_number Changed = CHANGED
ending_number Unknown = UNKNOWN

-- The bytes hold this start and these events, and the session has the history that they tell. What is told is where the next line goes,
-- what stands there, and how many lines end a page.
pub record IsResumed (bytes : List ℕ) (told : Resumed) (history : History) : Type 0 where
  pub beginning : Beginning
  pub events : List Event
  pub holds : Holds bytes beginning events
  pub history_is : history ≡ told_history beginning events
  pub check : told.check ≡ check_after (first_check beginning) events
  pub good : told.good ≡ length (file_of beginning events)
  pub records : told.records ≡ length events
  pub lines : told.lines ≡ beginning.lines
  pub ending : Ending
  pub ending_is : told.ending ≡ ending_number ending
  pub ends : EndsAs told.check (drop told.good bytes) ending
