-- What the events of a session tell: the history after them.
use Rattle.std.specs.Prelude.{◌≡◌, ℕ, ◌<◌, List, [], ◌∷◌, ◌++◌, length, false}
use Rattle.teco_exec.specs.StringMeaning.{string_meaning}
use Rattle.teco_session.specs.History.{History, NotedString, present, noted, undone, redone, rewound, without_undone}
use Rattle.teco_session.specs.Step.{Step, Reply}
use Rattle.teco_session.specs.declared.request.Request.{Request}
use Rattle.teco_session.specs.declared.request.Request.TheVariants.{Run, Undo, Redo, Rewind}
use Rattle.teco_session.specs.declared.request.Answer.{Answer}
use Rattle.teco_session.specs.declared.request.Answer.TheVariants.{Ended, Undone, Redone, Rewound}
use Rattle.teco_journal.specs.Events.{Event, ran, undid, redid, cut, forgot}

-- a string as the history has it: after so many steps of its meaning, from the present state
abbrev pub meant_at : History → List ℕ → ℕ → NotedString
meant_at h text steps = record {
  text = text;
  steps = steps;
  state = (string_meaning (present h) text steps).state;
}

-- the history after one event
abbrev pub after_event : History → Event → History
after_event h (ran steps text) = noted h (meant_at h text steps)
after_event h undid = undone h
after_event h redid = redone h
after_event h (cut steps) = rewound steps h
after_event h forgot = without_undone h

unfoldable pub after_events : History → List Event → History
after_events h [] = h
after_events h (e ∷ es) = after_events (after_event h e) es

-- It can happen to a session of this history: the string takes just these steps, the undo finds a string.
abbrev pub Happens : History → Event → Type 0
Happens h (ran steps text) = ((present h).is_done ≡ false)
    × ((string_meaning (present h) text steps).steps ≡ steps)
Happens h undid = 0 < h.cursor
Happens h redid = h.cursor < length h.notes
Happens h (cut steps) = 0 < h.cursor
Happens h forgot = Unit {0}

unfoldable pub AllHappen : History → List Event → Type 0
AllHappen h [] = Unit {0}
AllHappen h (e ∷ es) = Happens h e × AllHappen (after_event h e) es

-- What a session was told, and what it answered; or its undone strings were dropped.
pub data Deed : Type 0 where
  asked : Request → Reply → Deed
  dropped : Deed

-- what a request with this answer did to its session: one event, or nothing
abbrev pub event_of_run : List ℕ → Answer → List Event
event_of_run text (Ended outcome) = ran outcome.steps text ∷ []
event_of_run text _ = []

abbrev pub event_of_undo : Answer → List Event
event_of_undo Undone = undid ∷ []
event_of_undo _ = []

abbrev pub event_of_redo : Answer → List Event
event_of_redo Redone = redid ∷ []
event_of_redo _ = []

abbrev pub event_of_rewind : ℕ → Answer → List Event
event_of_rewind n Rewound = cut n ∷ []
event_of_rewind n _ = []

abbrev pub event_of_request : Request → Answer → List Event
event_of_request (Run text) answer = event_of_run text.items answer
event_of_request Undo answer = event_of_undo answer
event_of_request Redo answer = event_of_redo answer
event_of_request (Rewind n) answer = event_of_rewind n answer

abbrev pub event_of_deed : Deed → List Event
event_of_deed (asked request reply) = event_of_request request reply.answer
event_of_deed dropped = forgot ∷ []

-- the events of these deeds
unfoldable pub journal_of : List Deed → List Event
journal_of [] = []
journal_of (deed ∷ deeds) = event_of_deed deed ++ journal_of deeds

-- From the old history a deed left the new one: a request its reply, and a string under some limit.
abbrev pub DeedStep : History → Deed → History → Type 0
DeedStep old (asked request reply) new = (limit : ℕ) × Step limit old request reply new
DeedStep old dropped new = new ≡ without_undone old

-- From the old history these deeds left the new one, each string under a limit of its own.
unfoldable pub Lived : History → List Deed → History → Type 0
Lived old [] new = new ≡ old
Lived old (deed ∷ deeds) new = (mid : History) × DeedStep old deed mid × Lived mid deeds new
