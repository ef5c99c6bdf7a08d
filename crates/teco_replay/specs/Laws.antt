-- What holds of the events of a session.
use Rattle.std.specs.Prelude.{◌≡◌, List}
use Rattle.teco_session.specs.History.{History}
use Rattle.teco_replay.specs.Told.{Deed, after_events, AllHappen, Lived, journal_of}

-- The events of a session tell the history that it has.
abbrev pub JournalsTell : Type 0
JournalsTell = (old new : History) (deeds : List Deed) → Lived old deeds new
    → new ≡ after_events old (journal_of deeds)

-- All of them can happen again.
abbrev pub JournalsHappen : Type 0
JournalsHappen = (old new : History) (deeds : List Deed) → Lived old deeds new
    → AllHappen old (journal_of deeds)
