-- How far a reading has come.
use Rattle.std.specs.Prelude.{◌≡◌, ℕ, ◌+◌, List, [], ◌∷◌, ◌++◌, length}
use Rattle.teco_journal.specs.declared.reader.Journal.{Journal}
use Rattle.teco_journal.specs.declared.reader.Ending.{Ending}
use Rattle.teco_journal.specs.Events.{Event, HasRecord, events_of}
use Rattle.teco_journal.specs.Lines.{words_of, line_of, check_of}

-- the events so far, the check after them, and how many bytes their lines have
pub record Progress : Type 0 where
  pub events : List Event
  pub check : List ℕ
  pub good : ℕ
  pub ending : Ending

abbrev pub progress : Journal → Progress
progress j = record {
  events = events_of j.records.items;
  check = j.check;
  good = j.good;
  ending = j.ending;
}

-- A line is that of one event more.
abbrev pub Takes : Progress → List ℕ → Progress → Type 0
Takes old line new = (e : Event) × HasRecord e × (line ≡ line_of old.check (words_of e))
    × (new ≡ record {
      events = old.events ++ e ∷ [];
      check = check_of old.check (words_of e);
      good = old.good + length line;
      ending = old.ending;
    })
