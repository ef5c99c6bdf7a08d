-- What a request did, whose text lies elsewhere, as an event.
use Rattle.teco_journal.specs.Events.{Event, ran, undid, redid, cut}
use Rattle.teco_journal.specs.declared.entry.Entry.{Entry}
use Rattle.teco_journal.specs.declared.entry.Entry.TheVariants as entry_is

abbrev pub event_in : Entry → Event
event_in (entry_is.Run steps text) = ran steps text.now
event_in entry_is.Undo = undid
event_in entry_is.Redo = redid
event_in (entry_is.Rewind steps) = cut steps
