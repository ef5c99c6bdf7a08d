-- A history with a depth is the later part of the same history without one.
use Rattle.std.proofs.Common.{◌≡◌, ℕ, zero, suc, ◌+◌, ◌-◌, ◌<◌, ◌≤◌, Option, None, Some, List, [], ◌∷◌, ◌++◌, length, take, drop, min, get_or, refl, sym, ap, ◌∙◌, arith, subst, append-nil}
use Rattle.std.proofs.lemmas.List.{length-drop, length-take-le, drop-drop, get_or-drop}
use Rattle.teco_store.specs.State.{State}
use Rattle.teco_exec.specs.StringMeaning.{string_meaning}
use Rattle.teco_session.specs.Strings.{beyond}
use Rattle.teco_session.specs.History.{History, NotedString, state_after, present, note_at, undone, appended, noted, without_first, with_steps}
use Rattle.teco_journal.specs.Events.{Event, ran, undid, redid, cut, forgot}
use Rattle.teco_replay.specs.Told.{meant_at, Happens, AllHappen, after_event, after_events}
use Rattle.teco_replay.proofs.Runs.{appended_length}
use Rattle.teco_replay.proofs.KeptEvents.{noted_within}

-- a history without its first strings, and with this depth
abbrev pub later : ℕ → History → Option ℕ → History
later k w depth = record {
  first = state_after w.first w.notes k;
  notes = drop k w.notes;
  cursor = w.cursor - k;
  depth = depth;
}

pub same_history : (f g : State) (xs ys : List NotedString) (m n : ℕ) (depth : Option ℕ) → f ≡ g → xs ≡ ys → m ≡ n
    → (let h : History = record { first = f; notes = xs; cursor = m; depth = depth } in h) ≡ record { first = g; notes = ys; cursor = n; depth = depth }
same_history f g xs ys m n depth e h k = rw (e, h, k) refl

pub state_none : (s : State) (n : ℕ) → state_after s [] n ≡ s
state_none s zero = refl
state_none s (suc n) = refl

state_more : (s : State) (notes : List NotedString) (k n : ℕ) → state_after (state_after s notes k) (drop k notes) n ≡ state_after s notes (k + n)
state_more s notes zero n = ap (state_after s notes) (let e : n ≡ 0 + n = omega arith in e)
state_more s [] (suc k) n = state_none s n ∙ sym (state_none s (suc k + n))
state_more s (x ∷ notes) (suc k) n = state_more x.state notes k n ∙ ap (state_after s (x ∷ notes)) (let e : suc (k + n) ≡ suc k + n = omega arith in e)

pub state_kept : (s : State) (notes more : List NotedString) (c k : ℕ) → k ≤ c → c ≤ length notes → state_after s (take c notes ++ more) k ≡ state_after s notes k
state_kept s notes more c zero le within = refl
state_kept s notes more zero (suc k) le within = absurd (omega arith)
state_kept s [] more (suc c) (suc k) le within = absurd (omega arith)
state_kept s (x ∷ notes) more (suc c) (suc k) le within = state_kept x.state notes more c k (omega arith) (omega arith)

drop_kept : (notes more : List NotedString) (c k : ℕ) → k ≤ c → c ≤ length notes → take (c - k) (drop k notes) ++ more ≡ drop k (take c notes ++ more)
drop_kept notes more c zero le within = ap (λ n. take n notes ++ more) (let e : c - 0 ≡ c = omega arith in e)
drop_kept notes more zero (suc k) le within = absurd (omega arith)
drop_kept [] more (suc c) (suc k) le within = absurd (omega arith)
drop_kept (x ∷ notes) more (suc c) (suc k) le within = ap (λ n. take n (drop k notes) ++ more) (let e : suc c - suc k ≡ c - k = omega arith in e) ∙ drop_kept notes more c k (omega arith) (omega arith)

in_range : (notes : List NotedString) (i : ℕ) (a b : NotedString) → i < length notes → get_or notes i a ≡ get_or notes i b
in_range [] i a b less = absurd (omega arith)
in_range (x ∷ notes) zero a b less = refl
in_range (x ∷ notes) (suc i) a b less = in_range notes i a b (omega arith)

note_later : (notes : List NotedString) (k i : ℕ) (a b : NotedString) → k + i < length notes → get_or (drop k notes) i a ≡ get_or notes (k + i) b
note_later notes k i a b less = get_or-drop k notes i a ∙ in_range notes (k + i) a b less

pub present_later : (k : ℕ) (w : History) (depth : Option ℕ) → k ≤ w.cursor → present (later k w depth) ≡ present w
present_later k w depth le = state_more w.first w.notes k (w.cursor - k) ∙ ap (state_after w.first w.notes) (let e : k + (w.cursor - k) ≡ w.cursor = omega arith in e)

appended_later : (k : ℕ) (w : History) (depth : Option ℕ) (note : NotedString) → k ≤ w.cursor → w.cursor ≤ length w.notes
    → appended (later k w depth) note ≡ later k (appended w note) depth
appended_later k w depth note le within =
    same_history _ _ _ _ _ _ depth (sym (state_kept w.first w.notes (note ∷ []) w.cursor k le within)) (drop_kept w.notes (note ∷ []) w.cursor k le within) (omega arith)

pub without_later : (m k : ℕ) (w : History) (depth : Option ℕ) → without_first m (later k w depth) ≡ later (k + m) w depth
without_later m k w depth = same_history _ _ _ _ _ _ depth (state_more w.first w.notes k m) (drop-drop m k w.notes) (omega arith)

undone_later : (k : ℕ) (w : History) (depth : Option ℕ) → undone (later k w depth) ≡ later k (undone w) depth
undone_later k w depth = same_history _ _ _ _ _ _ depth refl refl (omega arith)

-- how many strings a history lets go as one more is noted
abbrev pub let_go : History → NotedString → ℕ
let_go h note = beyond h.depth (length (appended h note).notes)

pub noted_later : (k : ℕ) (w : History) (depth : Option ℕ) (note : NotedString) → k ≤ w.cursor → w.cursor ≤ length w.notes
    → noted (later k w depth) note ≡ later (k + let_go (later k w depth) note) (appended w note) depth
noted_later k w depth note le within =
    ap (without_first (let_go (later k w depth) note)) (appended_later k w depth note le within)
    ∙ without_later (let_go (later k w depth) note) k (appended w note) depth

pub beyond_few : (depth : Option ℕ) (n : ℕ) → beyond depth n ≤ n
beyond_few None n = omega arith
beyond_few (Some depth) n = omega arith

pub later_length : (k : ℕ) (w : History) (depth : Option ℕ) (note : NotedString) → k ≤ w.cursor → w.cursor ≤ length w.notes
    → length (appended (later k w depth) note).notes ≡ w.cursor - k + 1
later_length k w depth note le within = appended_length (later k w depth) note (let n = length-drop k w.notes in omega arith)

-- What an event does to the later part it does to the whole.
pub record Goes (k : ℕ) (w : History) (depth : Option ℕ) (e : Event) : Type 0 where
  pub at : ℕ
  pub is : after_event (later k w depth) e ≡ later at (after_event w e) depth
  pub le : at ≤ (after_event w e).cursor
  pub within : (after_event w e).cursor ≤ length (after_event w e).notes
  pub none : (after_event w e).depth ≡ None
  pub happens : Happens w e

pub noted_whole : (w : History) (note : NotedString) → w.depth ≡ None → noted w note ≡ appended w note
noted_whole w note none = noted_within w note (ap (λ (depth : Option ℕ). beyond depth (length (appended w note).notes)) none)

pub meant_from : (s t : State) (text : List ℕ) (steps : ℕ) → s ≡ t
    → (let x : NotedString = record { text = text; steps = steps; state = (string_meaning s text steps).state } in x) ≡ record { text = text; steps = steps; state = (string_meaning t text steps).state }
meant_from s t text steps e = rw e refl

ran_goes : (k : ℕ) (w : History) (depth : Option ℕ) (steps : ℕ) (text : List ℕ) → w.depth ≡ None → k ≤ w.cursor → w.cursor ≤ length w.notes → Happens (later k w depth) (ran steps text)
    → Goes k w depth (ran steps text)
ran_goes k w depth steps text none le within can =
    let note : NotedString = meant_at w text steps in
    let h : History = later k w depth in
    let here : present h ≡ present w = present_later k w depth le in
    let same : meant_at h text steps ≡ note = meant_from (present h) (present w) text steps here in
    let whole : noted w note ≡ appended w note = noted_whole w note none in
    let n : ℕ = k + let_go h note in
    let few = beyond_few depth (length (appended h note).notes) in
    let size = later_length k w depth note le within in
    let all = appended_length w note within in
    record {
      at = n;
      is = ap (noted h) same ∙ noted_later k w depth note le within ∙ ap (λ (x : History). later n x depth) (sym whole);
      le = subst (λ (x : History). n ≤ x.cursor) (sym whole) (let e : n ≤ (appended w note).cursor = omega arith in e);
      within = subst (λ (x : History). x.cursor ≤ length x.notes) (sym whole) (let e : (appended w note).cursor ≤ length (appended w note).notes = omega arith in e);
      none = none;
      happens = (ap (λ (s : State). s.is_done) (sym here) ∙ can.0, subst (λ (s : State). (string_meaning s text steps).steps ≡ steps) here can.1);
    }

same_cut : (n : ℕ) (before other : State) (note more : NotedString) → before ≡ other → note ≡ more → with_steps (min n note.steps) before note ≡ with_steps (min n more.steps) other more
same_cut n before other note more e h = rw (e, h) refl

cut_goes : (k : ℕ) (w : History) (depth : Option ℕ) (n : ℕ) → w.depth ≡ None → k ≤ w.cursor → w.cursor ≤ length w.notes → 0 < w.cursor - k → Goes k w depth (cut n)
cut_goes k w depth n none le within some =
    let h : History = later k w depth in
    let u : History = undone w in
    let short : NotedString = with_steps (min n (note_at w (w.cursor - 1)).steps) (present u) (note_at w (w.cursor - 1)) in
    let back : undone h ≡ later k u depth = undone_later k w depth in
    let here : present (undone h) ≡ present u = ap present back ∙ present_later k u depth (omega arith) in
    let i : k + (w.cursor - k - 1) ≡ w.cursor - 1 = omega arith in
    let note : note_at h (h.cursor - 1) ≡ note_at w (w.cursor - 1) =
    note_later w.notes k (w.cursor - k - 1) _ _ (omega arith) ∙ ap (note_at w) i in
    let all = appended_length u short (omega arith) in
    record {
      at = k;
      is = ap (appended (undone h)) (same_cut n (present (undone h)) (present u) (note_at h (h.cursor - 1)) (note_at w (w.cursor - 1)) here note)
          ∙ ap (λ (x : History). appended x short) back ∙ appended_later k u depth short (omega arith) (omega arith);
      le = omega arith;
      within = omega arith;
      none = none;
      happens = omega arith;
    }

forgot_goes : (k : ℕ) (w : History) (depth : Option ℕ) → w.depth ≡ None → k ≤ w.cursor → w.cursor ≤ length w.notes → Goes k w depth forgot
forgot_goes k w depth none le within =
    let size = length-take-le w.cursor w.notes within in
    record {
      at = k;
      is = same_history _ _ _ _ _ _ depth
          (sym (state_kept w.first w.notes [] w.cursor k le within) ∙ ap (λ (xs : List NotedString). state_after w.first xs k) (append-nil (take w.cursor w.notes)))
          (sym (append-nil _) ∙ drop_kept w.notes [] w.cursor k le within ∙ ap (drop k) (append-nil (take w.cursor w.notes)))
          refl;
      le = le;
      within = omega arith;
      none = none;
      happens = tt;
    }

goes : (k : ℕ) (w : History) (depth : Option ℕ) (e : Event) → w.depth ≡ None → k ≤ w.cursor → w.cursor ≤ length w.notes → Happens (later k w depth) e → Goes k w depth e
goes k w depth (ran steps text) none le within can = ran_goes k w depth steps text none le within can
goes k w depth undid none le within can = record { at = k; is = undone_later k w depth; le = omega arith; within = omega arith; none = none; happens = omega arith }
goes k w depth redid none le within can =
    let n = length-drop k w.notes in
    record { at = k; is = same_history _ _ _ _ _ _ depth refl refl (omega arith); le = omega arith; within = omega arith; none = none; happens = omega arith }
goes k w depth (cut n) none le within can = cut_goes k w depth n none le within can
goes k w depth forgot none le within can = forgot_goes k w depth none le within

pub record Ends (k : ℕ) (w : History) (depth : Option ℕ) (events : List Event) : Type 0 where
  pub at : ℕ
  pub is : after_events (later k w depth) events ≡ later at (after_events w events) depth
  pub le : at ≤ (after_events w events).cursor
  pub within : (after_events w events).cursor ≤ length (after_events w events).notes
  pub none : (after_events w events).depth ≡ None
  pub happen : AllHappen w events

pub ends : (k : ℕ) (w : History) (depth : Option ℕ) (events : List Event) → w.depth ≡ None → k ≤ w.cursor → w.cursor ≤ length w.notes → AllHappen (later k w depth) events → Ends k w depth events
unfolding after_events AllHappen
ends k w depth [] none le within can = record { at = k; is = refl; le = le; within = within; none = none; happen = tt }
ends k w depth (e ∷ events) none le within can =
    let g = goes k w depth e none le within can.0 in
    let r = ends g.at (after_event w e) depth events g.none g.le g.within (subst (λ (h : History). AllHappen h events) g.is can.1) in
    record {
      at = r.at;
      is = ap (λ (h : History). after_events h events) g.is ∙ r.is;
      le = r.le;
      within = r.within;
      none = r.none;
      happen = (g.happens, r.happen);
    }
