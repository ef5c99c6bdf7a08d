-- All that a listener hears of, and what happened by it.
use Rattle.std.specs.Prelude.{◌≡◌, List, [], ◌∷◌, map}
use Rattle.teco_journal.specs.Events.{Event}
use Rattle.teco_replay.specs.Told.{AllHappen, after_events}
use Rattle.teco_session.specs.History.{History}
use Rattle.teco_serve.specs.Heard.{Heard}
use Rattle.teco_serve.specs.Heard.Heard.{Did, Ran, Moved, Left, Finished}

-- From what it was to what it is, a listener has heard of all this, one after another.
abbrev pub HearsAll : {L : Type 0} → (L → L → Heard → Type 0) → L → List Heard → L → Type 0
HearsAll hears old [] new = new ≡ old
HearsAll {L = L} hears old (heard ∷ rest) new = (mid : L) × hears old mid heard × HearsAll hears mid rest new

-- what requests did to the session, of all that was heard
abbrev pub events_in : List Heard → List Event
events_in [] = []
events_in (Did event ∷ rest) = event ∷ events_in rest
events_in (Ran text begins answered bounds session ∷ rest) = events_in rest
events_in (Moved begins code session ∷ rest) = events_in rest
events_in (Left bytes broken_off ∷ rest) = events_in rest
events_in (Finished line input fate ∷ rest) = events_in rest

-- each of these is told, and nothing else
abbrev pub told_alone : List Event → List Heard
told_alone events = map Did events

-- A listener has heard of just what led from the old history to the new one: of each request that did something, once, in order.
pub record HearsAllDone {L : Type 0} (hears : L → L → Heard → Type 0) (before after : L) (old new : History) : Type 0 where
  pub heard : List Heard
  pub by_calls : HearsAll hears before heard after
  pub leads : new ≡ after_events old (events_in heard)
  pub happens : AllHappen old (events_in heard)
