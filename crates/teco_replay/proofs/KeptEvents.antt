-- What is kept of the events of a session tells the history again.
use Rattle.std.proofs.Common.{◌≡◌, ℕ, zero, suc, ◌+◌, ◌-◌, ◌≤◌, Option, List, [], ◌∷◌, ◌++◌, length, map, replicate, refl, sym, ap, ◌∙◌, arith, subst, append-nil, append_assoc, length-append}
use Rattle.std.proofs.Math.Seq.{take-length}
use Rattle.teco_store.specs.State.{State}
use Rattle.teco_session.specs.Strings.{beyond}
use Rattle.teco_session.specs.History.{History, NotedString, history_from, state_after, present, undone, appended, noted, without_first}
use Rattle.teco_journal.specs.Events.{Event, undid}
use Rattle.teco_exec.specs.Laws.{LimitsAreReached}
use Rattle.teco_replay.specs.Told.{meant_at, AllHappen, after_event, after_events}
use Rattle.teco_replay.specs.Pruning.{run_event, kept_events, before_strings, KeptEventsTell, KeptEventsHappen}
use Rattle.teco_replay.proofs.Runs.{CanRun, AllRun, StringsRun, beyond_fewer, strings_run}

pub after_both : (h : History) (xs ys : List Event) → after_events h (xs ++ ys) ≡ after_events (after_events h xs) ys
unfolding after_events
after_both h [] ys = refl
after_both h (x ∷ xs) ys = after_both (after_event h x) xs ys

pub both_happen : (h : History) (xs ys : List Event) → AllHappen h xs → AllHappen (after_events h xs) ys → AllHappen h (xs ++ ys)
unfolding after_events AllHappen
both_happen h [] ys p q = q
both_happen h (x ∷ xs) ys p q = (p.0, both_happen (after_event h x) xs ys p.1 q)

-- a history of these strings, none of which is undone
abbrev pub done_all : State → List NotedString → Option ℕ → History
done_all first notes depth = record { first = first; notes = notes; cursor = length notes; depth = depth }

at_cursor : (h : History) (n : ℕ) → n ≡ h.cursor → record h { cursor = n } ≡ h
at_cursor h n e = ap (λ k. let x : History = record h { cursor = k } in x) e

-- Within the depth no string is let go.
pub noted_within : (h : History) (note : NotedString) → beyond h.depth (length (appended h note).notes) ≡ 0 → noted h note ≡ appended h note
noted_within h note e = ap (λ n. without_first n (appended h note)) e ∙ at_cursor (appended h note) (h.cursor + 1 - 0) (omega arith)

pub meant_note : (h : History) (note : NotedString) → CanRun (present h) note → meant_at h note.text note.steps ≡ note
meant_note h note can = ap (λ (s : State). let x : NotedString = record { text = note.text; steps = note.steps; state = s } in x) (sym can.state)

pub state_last : (s : State) (notes : List NotedString) (note : NotedString) → state_after s (notes ++ note ∷ []) (length (notes ++ note ∷ [])) ≡ note.state
state_last s [] note = refl
state_last s (x ∷ notes) note = state_last x.state notes note

one_more : (first : State) (notes : List NotedString) (note : NotedString) (depth : Option ℕ) → beyond depth (length (notes ++ note ∷ [])) ≡ 0 → CanRun (state_after first notes (length notes)) note
    → after_event (done_all first notes depth) (run_event note) ≡ done_all first (notes ++ note ∷ []) depth
one_more first notes note depth fits can =
    let h : History = done_all first notes depth in
    let all : appended h note ≡ done_all first (notes ++ note ∷ []) depth =
    ap (λ (xs : List NotedString). let x : History = record { first = first; notes = xs ++ note ∷ []; cursor = length notes + 1; depth = depth } in x) (take-length notes)
    ∙ ap (λ n. let x : History = record { first = first; notes = notes ++ note ∷ []; cursor = n; depth = depth } in x) (sym (length-append notes (note ∷ []))) in
    let few : beyond depth (length (appended h note).notes) ≡ 0 = ap (λ (x : History). beyond depth (length x.notes)) all ∙ fits in
    ap (noted h) (meant_note h note can) ∙ noted_within h note few ∙ all

fits_one : (depth : Option ℕ) (notes : List NotedString) (note : NotedString) (rest : List NotedString) → beyond depth (length (notes ++ note ∷ rest)) ≡ 0
    → beyond depth (length (notes ++ note ∷ [])) ≡ 0
fits_one depth notes note rest fits =
    let n = length-append notes (note ∷ rest) in
    let m = length-append notes (note ∷ []) in
    beyond_fewer depth (length (notes ++ note ∷ rest)) (length (notes ++ note ∷ [])) (omega arith) fits

runs_tell : (first : State) (notes rest : List NotedString) (depth : Option ℕ) → beyond depth (length (notes ++ rest)) ≡ 0 → AllRun (state_after first notes (length notes)) rest
    → after_events (done_all first notes depth) (map run_event rest) ≡ done_all first (notes ++ rest) depth
unfolding after_events
runs_tell first notes [] depth fits can = ap (λ (xs : List NotedString). done_all first xs depth) (sym (append-nil notes))
runs_tell first notes (note ∷ rest) depth fits can =
    let more : List NotedString = notes ++ note ∷ [] in
    let joined : more ++ rest ≡ notes ++ note ∷ rest = append_assoc notes (note ∷ []) rest in
    let last : note.state ≡ state_after first more (length more) = sym (state_last first notes note) in
    ap (λ (h : History). after_events h (map run_event rest)) (one_more first notes note depth (fits_one depth notes note rest fits) can.0)
    ∙ runs_tell first more rest depth (ap (λ (xs : List NotedString). beyond depth (length xs)) joined ∙ fits) (subst (λ (s : State). AllRun s rest) last can.1)
    ∙ ap (λ (xs : List NotedString). done_all first xs depth) joined

runs_happen : (first : State) (notes rest : List NotedString) (depth : Option ℕ) → beyond depth (length (notes ++ rest)) ≡ 0 → AllRun (state_after first notes (length notes)) rest
    → AllHappen (done_all first notes depth) (map run_event rest)
unfolding AllHappen
runs_happen first notes [] depth fits can = tt
runs_happen first notes (note ∷ rest) depth fits can =
    let more : List NotedString = notes ++ note ∷ [] in
    let joined : more ++ rest ≡ notes ++ note ∷ rest = append_assoc notes (note ∷ []) rest in
    let last : note.state ≡ state_after first more (length more) = sym (state_last first notes note) in (
      (can.0.going, can.0.steps),
      subst (λ (h : History). AllHappen h (map run_event rest)) (sym (one_more first notes note depth (fits_one depth notes note rest fits) can.0))
          (runs_happen first more rest depth (ap (λ (xs : List NotedString). beyond depth (length xs)) joined ∙ fits) (subst (λ (s : State). AllRun s rest) last can.1)),
    )

pub undos_tell : (h : History) (n : ℕ) → after_events h (replicate n undid) ≡ record h { cursor = h.cursor - n }
unfolding after_events
undos_tell h zero = sym (at_cursor h (h.cursor - 0) (omega arith))
undos_tell h (suc n) = undos_tell (undone h) n ∙ ap (λ k. let x : History = record h { cursor = k } in x) (let e : h.cursor - 1 - n ≡ h.cursor - suc n = omega arith in e)

pub undos_happen : (h : History) (n : ℕ) → n ≤ h.cursor → AllHappen h (replicate n undid)
unfolding AllHappen
undos_happen h zero le = tt
undos_happen h (suc n) le = (omega arith, undos_happen (undone h) n (omega arith))

-- the strings again, none of them undone
all_again : (h : History) → StringsRun h → after_events (before_strings h) (map run_event h.notes) ≡ done_all h.first h.notes h.depth
all_again h ok = runs_tell h.first [] h.notes h.depth ok.depth ok.all

pub kept_tell : (h : History) → StringsRun h → after_events (before_strings h) (kept_events h) ≡ h
kept_tell h ok =
    let n : ℕ = length h.notes - h.cursor in
    let within = ok.within in
    let at : length h.notes - n ≡ h.cursor = omega arith in
    after_both (before_strings h) (map run_event h.notes) (replicate n undid)
    ∙ ap (λ (x : History). after_events x (replicate n undid)) (all_again h ok)
    ∙ undos_tell (done_all h.first h.notes h.depth) n
    ∙ at_cursor h (length h.notes - n) at

kept_happen : (h : History) → StringsRun h → AllHappen (before_strings h) (kept_events h)
kept_happen h ok =
    let n : ℕ = length h.notes - h.cursor in
    both_happen (before_strings h) (map run_event h.notes) (replicate n undid)
    (runs_happen h.first [] h.notes h.depth ok.depth ok.all)
    (subst (λ (x : History). AllHappen x (replicate n undid)) (sym (all_again h ok)) (undos_happen (done_all h.first h.notes h.depth) n (omega arith)))

pub kept_events_tell : LimitsAreReached → KeptEventsTell
kept_events_tell reached depth first events can = kept_tell (after_events (history_from depth first) events) (strings_run reached depth first events can)

pub kept_events_happen : LimitsAreReached → KeptEventsHappen
kept_events_happen reached depth first events can = kept_happen (after_events (history_from depth first) events) (strings_run reached depth first events can)
