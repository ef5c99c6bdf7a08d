-- What a record tells, without where it lies in memory.
use Rattle.std.specs.Prelude.{ℕ, ◌^◌, ◌<◌, List, [], ◌∷◌, map, Option, Some, None}
use Rattle.teco_journal.specs.declared.record.Record.{Record}
use Rattle.teco_journal.specs.declared.record.Record.TheVariants as record_is

pub data Event : Type 0 where
  ran : ℕ → List ℕ → Event
  undid : Event
  redid : Event
  cut : ℕ → Event
  forgot : Event

abbrev pub event_of : Record → Event
event_of (record_is.Run steps text) = ran steps text.items
event_of record_is.Undo = undid
event_of record_is.Redo = redid
event_of (record_is.Rewind steps) = cut steps
event_of record_is.Forget = forgot

abbrev pub event_told : Option Record → Option Event
event_told (Some told) = Some (event_of told)
event_told None = None

abbrev pub events_of : List Record → List Event
events_of records = map event_of records

-- A record can tell it: its steps are a number of 64 bits.
abbrev pub HasRecord : Event → Type 0
HasRecord (ran steps text) = steps < 2 ^ 64
HasRecord (cut steps) = steps < 2 ^ 64
HasRecord _ = Unit {0}

abbrev pub HaveRecords : List Event → Type 0
HaveRecords [] = Unit {0}
HaveRecords (e ∷ es) = HasRecord e × HaveRecords es
