-- What the history of a session needs of its events: what later ones have dropped is left out.
use Rattle.std.specs.Prelude.{◌≡◌, ℕ, ◌-◌, ◌<◌, ◌≤◌, List, [], ◌∷◌, ◌++◌, length, map, replicate, Option, Some, None}
use Rattle.teco_store.specs.State.{State}
use Rattle.teco_session.specs.History.{History, NotedString, history_from, without_first}
use Rattle.teco_journal.specs.Events.{Event, ran, undid}
use Rattle.teco_replay.specs.Told.{AllHappen, after_event, after_events}

-- the run of a string of the history
abbrev pub run_event : NotedString → Event
run_event note = ran note.steps note.text

-- The runs of the strings that a history holds, and then an undo for each that stands after its cursor.
abbrev pub kept_events : History → List Event
kept_events h = map run_event h.notes ++ replicate (length h.notes - h.cursor) undid

-- the history before the strings that it holds
abbrev pub before_strings : History → History
before_strings h = history_from h.depth h.first

-- What happened to a session left a history. The events that it needs tell the same one, from before its strings.
abbrev pub KeptEventsTell : Type 0
KeptEventsTell = (depth : Option ℕ) (first : State) (events : List Event) → AllHappen (history_from depth first) events
    → let h : History = after_events (history_from depth first) events in
    after_events (before_strings h) (kept_events h) ≡ h

-- All of them can happen there.
abbrev pub KeptEventsHappen : Type 0
KeptEventsHappen = (depth : Option ℕ) (first : State) (events : List Event) → AllHappen (history_from depth first) events
    → let h : History = after_events (history_from depth first) events in
    AllHappen (before_strings h) (kept_events h)

-- No fewer events lead to a history than those that it needs.
abbrev pub KeptEventsAreFewest : Type 0
KeptEventsAreFewest = (depth : Option ℕ) (first : State) (events : List Event) → AllHappen (history_from depth first) events
    → length (kept_events (after_events (history_from depth first) events)) ≤ length events

-- The depth has room for each string that is run, so that none is let go.
unfoldable pub NoneIsLetGo : Option ℕ → History → List Event → Type 0
NoneIsLetGo None h events = Unit {0}
NoneIsLetGo (Some depth) h [] = Unit {0}
NoneIsLetGo (Some depth) h (ran steps text ∷ events) = (h.cursor < depth) × NoneIsLetGo (Some depth) (after_event h (ran steps text)) events
NoneIsLetGo (Some depth) h (e ∷ events) = NoneIsLetGo (Some depth) (after_event h e) events

-- Where none is let go, the history has its first state yet.
abbrev pub FirstStays : Type 0
FirstStays = (depth : Option ℕ) (first : State) (events : List Event) → NoneIsLetGo depth (history_from depth first) events
    → (after_events (history_from depth first) events).first ≡ first

-- The history is the other one, perhaps without its first strings.
pub record LeadsThere (h again : History) : Type 0 where
  pub older : ℕ
  pub within : older ≤ again.cursor
  pub same : h ≡ without_first older again

-- Whatever the depth lets go, the events that the history without a depth needs tell the history again from the first state of all. It may
-- hold older strings then, which had been let go.
abbrev pub AllEventsLead : Type 0
AllEventsLead = (depth : Option ℕ) (first : State) (events : List Event) → AllHappen (history_from depth first) events
    → LeadsThere (after_events (history_from depth first) events)
    (after_events (history_from depth first) (kept_events (after_events (history_from None first) events)))

-- All of these can happen there.
abbrev pub AllEventsHappen : Type 0
AllEventsHappen = (depth : Option ℕ) (first : State) (events : List Event) → AllHappen (history_from depth first) events
    → AllHappen (history_from depth first) (kept_events (after_events (history_from None first) events))
