-- No fewer events lead to a history than those that it needs.
use Rattle.std.proofs.Common.{◌≡◌, ℕ, ◌+◌, ◌-◌, ◌≤◌, List, [], ◌∷◌, length, map, min, replicate, ◌∙◌, arith, length-append}
use Rattle.std.proofs.lemmas.List.{length-drop, length-take-le, length-map, length-replicate}
use Rattle.teco_session.specs.Strings.{beyond}
use Rattle.teco_session.specs.History.{History, NotedString, history_from, present, note_at, undone, appended, with_steps}
use Rattle.teco_journal.specs.Events.{Event, ran, undid, redid, cut, forgot}
use Rattle.teco_replay.specs.Told.{meant_at, Happens, AllHappen, after_event, after_events}
use Rattle.teco_replay.specs.Pruning.{run_event, kept_events, KeptEventsAreFewest}
use Rattle.teco_replay.proofs.Runs.{appended_length}

-- how many events a history needs
needs : (h : History) → length (kept_events h) ≡ length h.notes + (length h.notes - h.cursor)
needs h =
    let undos = length-replicate (length h.notes - h.cursor) undid in
    length-append (map run_event h.notes) (replicate (length h.notes - h.cursor) undid) ∙ omega (arith, length-map h.notes run_event)

-- One event makes the need greater by one at most.
record NeedsOne (h : History) (e : Event) : Type 0 where
  pub within : (after_event h e).cursor ≤ length (after_event h e).notes
  pub more : length (after_event h e).notes + (length (after_event h e).notes - (after_event h e).cursor) ≤ length h.notes + (length h.notes - h.cursor) + 1

needs_one : (h : History) (e : Event) → h.cursor ≤ length h.notes → Happens h e → NeedsOne h e
needs_one h (ran steps text) within can =
    let note : NotedString = meant_at h text steps in
    let k : ℕ = beyond h.depth (length (appended h note).notes) in
    let size = appended_length h note within in
    let rest = length-drop k (appended h note).notes in
    record { within = omega arith; more = omega arith }
needs_one h undid within can = record { within = omega arith; more = omega arith }
needs_one h redid within can = record { within = omega arith; more = omega arith }
needs_one h (cut n) within can =
    let short : NotedString = with_steps (min n (note_at h (h.cursor - 1)).steps) (present (undone h)) (note_at h (h.cursor - 1)) in
    let size = appended_length (undone h) short (omega arith) in
    record { within = omega arith; more = omega arith }
needs_one h forgot within can =
    let size = length-take-le h.cursor h.notes within in
    record { within = omega arith; more = omega arith }

needs_all : (h : History) (events : List Event) → h.cursor ≤ length h.notes → AllHappen h events
    → length (kept_events (after_events h events)) ≤ length h.notes + (length h.notes - h.cursor) + length events
unfolding after_events AllHappen
needs_all h [] within can = omega (arith, needs h)
needs_all h (e ∷ events) within can =
    let one = needs_one h e within can.0 in
    omega (arith, one.more, needs_all (after_event h e) events one.within can.1)

pub fewest : KeptEventsAreFewest
fewest depth first events can =
    let all = needs_all (history_from depth first) events (omega arith) can in
    omega arith
