-- All strings of a session again, under its depth: they lead to its history.
use Rattle.std.proofs.Common.{◌≡◌, ℕ, zero, suc, ◌+◌, ◌-◌, ◌≤◌, Option, None, Some, List, [], ◌∷◌, ◌++◌, length, drop, map, replicate, refl, sym, ap, ◌∙◌, arith, subst, append-nil, append_assoc, length-append}
use Rattle.std.proofs.Math.Seq.{take-length}
use Rattle.std.proofs.lemmas.List.{length-drop}
use Rattle.teco_store.specs.State.{State}
use Rattle.teco_exec.specs.StringMeaning.{string_meaning}
use Rattle.teco_session.specs.Strings.{beyond}
use Rattle.teco_session.specs.History.{History, NotedString, history_from, state_after, present, appended, noted, without_first}
use Rattle.teco_journal.specs.Events.{Event, undid}
use Rattle.teco_exec.specs.Laws.{LimitsAreReached}
use Rattle.teco_replay.specs.Told.{meant_at, AllHappen, after_event, after_events}
use Rattle.teco_replay.specs.Pruning.{run_event, kept_events, AllEventsLead, AllEventsHappen}
use Rattle.teco_replay.proofs.Runs.{CanRun, AllRun, StringsRun, strings_run}
use Rattle.teco_replay.proofs.KeptEvents.{after_both, both_happen, done_all, meant_note, state_last, undos_tell, undos_happen}
use Rattle.teco_replay.proofs.Later.{later, same_history, state_none, present_later, without_later, let_go, noted_later, beyond_few, later_length, meant_from, ends}
use Rattle.teco_replay.proofs.Firsts.{first_without_depth}

abbrev no_notes : List NotedString
no_notes = []

-- what a depth leaves of these strings, none of which is undone
abbrev left_of : State → List NotedString → Option ℕ → History
left_of first notes depth = later (beyond depth (length notes)) (done_all first notes None) depth

beyond_more : (depth : Option ℕ) (c : ℕ) → beyond depth c + beyond depth (c - beyond depth c + 1) ≡ beyond depth (c + 1)
beyond_more None c = omega arith
beyond_more (Some depth) c = omega arith

appended_done : (first : State) (notes : List NotedString) (note : NotedString) → appended (done_all first notes None) note ≡ done_all first (notes ++ note ∷ []) None
appended_done first notes note = same_history _ _ _ _ _ _ None refl (ap (λ (xs : List NotedString). xs ++ note ∷ []) (take-length notes)) (sym (length-append notes (note ∷ [])))

one_left : (first : State) (notes : List NotedString) (note : NotedString) (depth : Option ℕ) → CanRun (state_after first notes (length notes)) note
    → after_event (left_of first notes depth) (run_event note) ≡ left_of first (notes ++ note ∷ []) depth
one_left first notes note depth can =
    let w : History = done_all first notes None in
    let k : ℕ = beyond depth (length notes) in
    let h : History = later k w depth in
    let le = beyond_few depth (length notes) in
    let here : present h ≡ present w = present_later k w depth le in
    let same : meant_at h note.text note.steps ≡ note = meant_from (present h) (present w) note.text note.steps here ∙ meant_note w note can in
    let size : length (appended h note).notes ≡ length notes - k + 1 = later_length k w depth note le (omega arith) in
    let count : k + let_go h note ≡ beyond depth (length (notes ++ note ∷ [])) =
    ap (λ n. k + beyond depth n) size ∙ beyond_more depth (length notes) ∙ ap (beyond depth) (sym (length-append notes (note ∷ []))) in
    ap (noted h) same ∙ noted_later k w depth note le (omega arith)
    ∙ ap (λ n. later n (appended w note) depth) count
    ∙ ap (λ (x : History). later (beyond depth (length (notes ++ note ∷ []))) x depth) (appended_done first notes note)

record Left (first : State) (notes rest : List NotedString) (depth : Option ℕ) : Type 0 where
  pub tell : after_events (left_of first notes depth) (map run_event rest) ≡ left_of first (notes ++ rest) depth
  pub happen : AllHappen (left_of first notes depth) (map run_event rest)

left : (first : State) (notes rest : List NotedString) (depth : Option ℕ) → AllRun (state_after first notes (length notes)) rest → Left first notes rest depth
unfolding after_events AllHappen
left first notes [] depth can = record { tell = ap (λ (xs : List NotedString). left_of first xs depth) (sym (append-nil notes)); happen = tt }
left first notes (note ∷ rest) depth can =
    let more : List NotedString = notes ++ note ∷ [] in
    let w : History = done_all first notes None in
    let joined : more ++ rest ≡ notes ++ note ∷ rest = append_assoc notes (note ∷ []) rest in
    let last : note.state ≡ state_after first more (length more) = sym (state_last first notes note) in
    let one = one_left first notes note depth can.0 in
    let here : present (left_of first notes depth) ≡ present w = present_later (beyond depth (length notes)) w depth (beyond_few depth (length notes)) in
    let r = left first more rest depth (subst (λ (s : State). AllRun s rest) last can.1) in
    record {
      tell = ap (λ (h : History). after_events h (map run_event rest)) one ∙ r.tell ∙ ap (λ (xs : List NotedString). left_of first xs depth) joined;
      happen = (
        (ap (λ (s : State). s.is_done) here ∙ can.0.going, subst (λ (s : State). (string_meaning s note.text note.steps).steps ≡ note.steps) (sym here) can.0.steps),
        subst (λ (h : History). AllHappen h (map run_event rest)) (sym one) r.happen,
      );
    }

drop_none : (n : ℕ) → drop n no_notes ≡ no_notes
drop_none zero = refl
drop_none (suc n) = refl

first_left : (first : State) (depth : Option ℕ) → history_from depth first ≡ left_of first [] depth
first_left first depth =
    same_history _ _ _ _ _ _ depth (sym (state_none first (beyond depth 0))) (sym (drop_none (beyond depth 0))) (let few = beyond_few depth 0 in omega arith)

-- the history without the depth, and how much of it the one with the depth is
record Whole (depth : Option ℕ) (first : State) (events : List Event) : Type 0 where
  pub at : ℕ
  pub is : after_events (history_from depth first) events ≡ later at (after_events (history_from None first) events) depth
  pub le : at ≤ (after_events (history_from None first) events).cursor
  pub enough : beyond depth (length (after_events (history_from None first) events).notes) ≤ at
  pub run : StringsRun (after_events (history_from None first) events)
  pub none : (after_events (history_from None first) events).depth ≡ None

beyond_under : (depth : Option ℕ) (n k : ℕ) → beyond depth (n - k) ≡ 0 → beyond depth n ≤ k
beyond_under None n k e = omega arith
beyond_under (Some depth) n k e = omega arith

whole : LimitsAreReached → (depth : Option ℕ) (first : State) (events : List Event) → AllHappen (history_from depth first) events → Whole depth first events
whole reached depth first events can =
    let start : History = history_from None first in
    let zero_later : history_from depth first ≡ later 0 start depth = same_history _ _ _ _ _ _ depth refl refl (omega arith) in
    let w : History = after_events start events in
    let r = ends 0 start depth events refl (omega arith) (omega arith) (subst (λ (h : History). AllHappen h events) zero_later can) in
    let is : after_events (history_from depth first) events ≡ later r.at w depth = ap (λ (h : History). after_events h events) zero_later ∙ r.is in
    let ok : StringsRun (later r.at w depth) = subst StringsRun is (strings_run reached depth first events can) in
    record {
      at = r.at;
      is = is;
      le = r.le;
      enough = beyond_under depth (length w.notes) r.at (ap (beyond depth) (sym (length-drop r.at w.notes)) ∙ ok.depth);
      run = strings_run reached None first events r.happen;
      none = r.none;
    }

-- all strings again, under the depth
record Again (depth : Option ℕ) (first : State) (w : History) : Type 0 where
  pub tell : after_events (history_from depth first) (kept_events w) ≡ later (beyond depth (length w.notes)) w depth
  pub happen : AllHappen (history_from depth first) (kept_events w)

same_cursor : (h : History) (m n : ℕ) → m ≡ n → (let x : History = record h { cursor = m } in x) ≡ record h { cursor = n }
same_cursor h m n e = ap (λ k. let x : History = record h { cursor = k } in x) e

again : (depth : Option ℕ) (first : State) (w : History) → w.first ≡ first → StringsRun w → beyond depth (length w.notes) ≤ w.cursor → Again depth first w
again depth first w from ok le =
    let n : ℕ = length w.notes - w.cursor in
    let within = ok.within in
    let runs : List Event = map run_event w.notes in
    let r = left first [] w.notes depth (subst (λ (s : State). AllRun s w.notes) from ok.all) in
    let start = first_left first depth in
    let done : after_events (history_from depth first) runs ≡ left_of first w.notes depth = ap (λ (h : History). after_events h runs) start ∙ r.tell in
    record {
      tell = after_both (history_from depth first) runs (replicate n undid)
          ∙ ap (λ (h : History). after_events h (replicate n undid)) done
          ∙ undos_tell (left_of first w.notes depth) n
          ∙ same_history _ _ _ _ _ _ depth (ap (λ (s : State). state_after s w.notes (beyond depth (length w.notes))) (sym from)) refl (omega arith);
      happen = both_happen (history_from depth first) runs (replicate n undid)
          (subst (λ (h : History). AllHappen h runs) (sym start) r.happen)
          (subst (λ (h : History). AllHappen h (replicate n undid)) (sym done) (undos_happen (left_of first w.notes depth) n (omega arith)));
    }

all_again : LimitsAreReached → (depth : Option ℕ) (first : State) (events : List Event) → AllHappen (history_from depth first) events
    → Again depth first (after_events (history_from None first) events)
all_again reached depth first events can =
    let w : Whole depth first events = whole reached depth first events can in
    let le = w.le in
    let enough = w.enough in
    again depth first (after_events (history_from None first) events) (first_without_depth first events) w.run (omega arith)

pub all_events_lead : LimitsAreReached → AllEventsLead
all_events_lead reached depth first events can =
    let w : History = after_events (history_from None first) events in
    let now : Whole depth first events = whole reached depth first events can in
    let j : ℕ = beyond depth (length w.notes) in
    let r = all_again reached depth first events can in
    let le = now.le in
    let enough = now.enough in
    let at : j + (now.at - j) ≡ now.at = omega arith in
    record {
      older = now.at - j;
      within = subst (λ (h : History). now.at - j ≤ h.cursor) (sym r.tell) (omega arith);
      same = now.is ∙ ap (λ n. later n w depth) (sym at) ∙ sym (without_later (now.at - j) j w depth) ∙ ap (without_first (now.at - j)) (sym r.tell);
    }

pub all_events_happen : LimitsAreReached → AllEventsHappen
all_events_happen reached depth first events can = (all_again reached depth first events can).happen
