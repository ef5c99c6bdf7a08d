-- The first state of a history stays while its depth lets no string go.
use Rattle.std.proofs.Common.{◌≡◌, ℕ, ◌-◌, ◌<◌, Option, None, Some, List, [], ◌∷◌, length, take, refl, ap, ◌∙◌, arith, length-append, length-take}
use Rattle.std.proofs.Math.Nat.{min-le_left}
use Rattle.teco_store.specs.State.{State}
use Rattle.teco_session.specs.Strings.{beyond}
use Rattle.teco_session.specs.History.{History, NotedString, history_from, appended, noted}
use Rattle.teco_journal.specs.Events.{Event, ran, undid, redid, cut, forgot}
use Rattle.teco_replay.specs.Told.{meant_at, after_event, after_events}
use Rattle.teco_replay.specs.Pruning.{NoneIsLetGo, FirstStays}
use Rattle.teco_replay.proofs.KeptEvents.{noted_within}

-- The first state of a history without a depth stays.
first_after : (h : History) (e : Event) → h.depth ≡ None → (after_event h e).first ≡ h.first
first_after h (ran steps text) none = ap (λ (x : History). x.first) (noted_within h (meant_at h text steps) (ap (λ (depth : Option ℕ). beyond depth (length (appended h (meant_at h text steps)).notes)) none))
first_after h undid none = refl
first_after h redid none = refl
first_after h (cut n) none = refl
first_after h forgot none = refl

depth_after : (h : History) (e : Event) → (after_event h e).depth ≡ h.depth
depth_after h (ran steps text) = refl
depth_after h undid = refl
depth_after h redid = refl
depth_after h (cut n) = refl
depth_after h forgot = refl

stays_without : (h : History) (events : List Event) → h.depth ≡ None → (after_events h events).first ≡ h.first
unfolding after_events
stays_without h [] none = refl
stays_without h (e ∷ events) none = stays_without (after_event h e) events (depth_after h e ∙ none) ∙ first_after h e none

pub first_without_depth : (first : State) (events : List Event) → (after_events (history_from None first) events).first ≡ first
first_without_depth first events = stays_without (history_from None first) events refl

fits : (depth : ℕ) (h : History) (note : NotedString) → h.cursor < depth → length (appended h note).notes - depth ≡ 0
fits depth h note room =
    let front = length-take h.cursor h.notes in
    let few = min-le_left h.cursor (length h.notes) in
    let all = length-append (take h.cursor h.notes) (note ∷ []) in
    omega arith

ran_within : (depth : ℕ) (h : History) (note : NotedString) → h.depth ≡ Some depth → h.cursor < depth → (noted h note).first ≡ h.first
ran_within depth h note is room =
    ap (λ (x : History). x.first) (noted_within h note (ap (λ (d : Option ℕ). beyond d (length (appended h note).notes)) is ∙ fits depth h note room))

stays_within : (depth : ℕ) (h : History) (events : List Event) → h.depth ≡ Some depth → NoneIsLetGo (Some depth) h events → (after_events h events).first ≡ h.first
unfolding after_events NoneIsLetGo
stays_within depth h [] is room = refl
stays_within depth h (ran steps text ∷ events) is room =
    stays_within depth (after_event h (ran steps text)) events is room.1 ∙ ran_within depth h (meant_at h text steps) is room.0
stays_within depth h (undid ∷ events) is room = stays_within depth (after_event h undid) events is room
stays_within depth h (redid ∷ events) is room = stays_within depth (after_event h redid) events is room
stays_within depth h (cut n ∷ events) is room = stays_within depth (after_event h (cut n)) events is room
stays_within depth h (forgot ∷ events) is room = stays_within depth (after_event h forgot) events is room

pub first_stays : FirstStays
first_stays None first events room = first_without_depth first events
first_stays (Some depth) first events room = stays_within depth (history_from (Some depth) first) events refl room
