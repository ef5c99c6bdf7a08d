-- The strings of a history whose events could happen: each can be run where it stands.
use Rattle.std.proofs.Common.{◌≡◌, ℕ, zero, suc, ◌+◌, ◌-◌, ◌<◌, ◌≤◌, Option, None, Some, List, [], ◌∷◌, ◌++◌, length, take, drop, min, get_or, Bool, true, false, ltb, ltb-true, ltb-false, refl, sym, ap, ◌∙◌, arith, subst, length-append}
use Rattle.std.proofs.Math.Nat.{min-eq_left, min-eq_right}
use Rattle.std.proofs.lemmas.List.{length-drop, length-take-le}
use Rattle.teco_store.specs.State.{State}
use Rattle.teco_exec.specs.StringMeaning.{string_meaning}
use Rattle.teco_session.specs.Strings.{beyond}
use Rattle.teco_session.specs.History.{History, NotedString, note_at, history_from, state_after, present, undone, appended, noted, without_undone, with_steps, rewound}
use Rattle.teco_journal.specs.Events.{Event, ran, undid, redid, cut, forgot}
use Rattle.teco_exec.specs.Laws.{LimitsAreReached}
use Rattle.teco_replay.specs.Told.{meant_at, Happens, AllHappen, after_event, after_events}

-- From this state a string takes just its steps, and leaves its state.
pub record CanRun (before : State) (note : NotedString) : Type 0 where
  pub going : before.is_done ≡ false
  pub steps : (string_meaning before note.text note.steps).steps ≡ note.steps
  pub state : note.state ≡ (string_meaning before note.text note.steps).state

abbrev pub AllRun : State → List NotedString → Type 0
AllRun before [] = Unit {0}
AllRun before (note ∷ notes) = CanRun before note × AllRun note.state notes

-- Each string of a history can be run where it stands, and they are no more than its depth.
pub record StringsRun (h : History) : Type 0 where
  pub all : AllRun h.first h.notes
  pub within : h.cursor ≤ length h.notes
  pub depth : beyond h.depth (length h.notes) ≡ 0

first_run : (s : State) (notes : List NotedString) (n : ℕ) → AllRun s notes → AllRun s (take n notes)
first_run s notes zero all = tt
first_run s [] (suc n) all = tt
first_run s (x ∷ notes) (suc n) all = (all.0, first_run x.state notes n all.1)

last_run : (s : State) (notes : List NotedString) (n : ℕ) → AllRun s notes → AllRun (state_after s notes n) (drop n notes)
last_run s notes zero all = all
last_run s [] (suc n) all = tt
last_run s (x ∷ notes) (suc n) all = last_run x.state notes n all.1

one_more_run : (s : State) (notes : List NotedString) (n : ℕ) (note : NotedString) → AllRun s notes → n ≤ length notes
    → CanRun (state_after s notes n) note → AllRun s (take n notes ++ note ∷ [])
one_more_run s notes zero note all le can = (can, tt)
one_more_run s [] (suc n) note all le can = absurd (omega arith)
one_more_run s (x ∷ notes) (suc n) note all le can = (all.0, one_more_run x.state notes n note all.1 (omega arith) can)

run_at : (s : State) (notes : List NotedString) (n : ℕ) (other : NotedString) → AllRun s notes → n < length notes
    → CanRun (state_after s notes n) (get_or notes n other)
run_at s [] n other all less = absurd (omega arith)
run_at s (x ∷ notes) zero other all less = all.0
run_at s (x ∷ notes) (suc n) other all less = run_at x.state notes n other all.1 (omega arith)

pub beyond_fewer : (depth : Option ℕ) (n m : ℕ) → m ≤ n → beyond depth n ≡ 0 → beyond depth m ≡ 0
beyond_fewer None n m le e = refl
beyond_fewer (Some depth) n m le e = omega arith

beyond_rest : (depth : Option ℕ) (n m : ℕ) → m ≡ n - beyond depth n → beyond depth m ≡ 0
beyond_rest None n m e = refl
beyond_rest (Some depth) n m e = omega arith

beyond_none : (depth : Option ℕ) → beyond depth 0 ≡ 0
beyond_none None = refl
beyond_none (Some depth) = omega arith

pub appended_length : (h : History) (note : NotedString) → h.cursor ≤ length h.notes → length (appended h note).notes ≡ h.cursor + 1
appended_length h note le = length-append (take h.cursor h.notes) (note ∷ []) ∙ ap (λ n. n + 1) (length-take-le h.cursor h.notes le)

noted_run : (h : History) (note : NotedString) → StringsRun h → CanRun (present h) note → StringsRun (noted h note)
noted_run h note ok can =
    let a : History = appended h note in
    let n : ℕ = beyond h.depth (length a.notes) in
    let size = appended_length h note ok.within in
    let rest = length-drop n a.notes in
    record {
      all = last_run h.first a.notes n (one_more_run h.first h.notes h.cursor note ok.all ok.within can);
      within = omega arith;
      depth = beyond_rest h.depth (length a.notes) (length (drop n a.notes)) rest;
    }

cut_steps : LimitsAreReached → (s : State) (text : List ℕ) (steps n : ℕ) → (string_meaning s text steps).steps ≡ steps
    → (string_meaning s text (min n steps)).steps ≡ min n steps
cut_steps reached s text steps n e =
    by (ltb n steps) refl
  where
    by : (v : Bool) → ltb n steps ≡ v → (string_meaning s text (min n steps)).steps ≡ min n steps
    by true is =
        let less = ltb-true n steps is in
        let k : min n steps ≡ n = min-eq_left (omega arith) in
        ap (λ k. (string_meaning s text k).steps) k ∙ reached s text steps n (subst (λ k. n < k) (sym e) less) ∙ sym k
    by false is =
        let le : steps ≤ n = ltb-false n steps is in
        let k : min n steps ≡ steps = min-eq_right le in
        ap (λ k. (string_meaning s text k).steps) k ∙ e ∙ sym k

rewound_run : LimitsAreReached → (n : ℕ) (h : History) → StringsRun h → 0 < h.cursor → StringsRun (rewound n h)
rewound_run reached n h ok some =
    let i : ℕ = h.cursor - 1 in
    let note : NotedString = note_at h i in
    let within = ok.within in
    let before : State = state_after h.first h.notes i in
    let can : CanRun before note = run_at h.first h.notes i _ ok.all (omega arith) in
    let short : NotedString = with_steps (min n note.steps) before note in
    let now : CanRun before short = record { going = can.going; steps = cut_steps reached before note.text note.steps n can.steps; state = refl } in
    let size = appended_length (undone h) short (omega arith) in
    record {
      all = one_more_run h.first h.notes i short ok.all (omega arith) now;
      within = omega arith;
      depth = beyond_fewer h.depth (length h.notes) (length (take i h.notes ++ short ∷ [])) (omega arith) ok.depth;
    }

without_undone_run : (h : History) → StringsRun h → StringsRun (without_undone h)
without_undone_run h ok =
    let size = length-take-le h.cursor h.notes ok.within in
    let within = ok.within in
    record {
      all = first_run h.first h.notes h.cursor ok.all;
      within = omega arith;
      depth = beyond_fewer h.depth (length h.notes) (length (take h.cursor h.notes)) (omega arith) ok.depth;
    }

pub event_run : LimitsAreReached → (h : History) (e : Event) → StringsRun h → Happens h e → StringsRun (after_event h e)
event_run reached h (ran steps text) ok can = noted_run h (meant_at h text steps) ok (record { going = can.0; steps = can.1; state = refl })
event_run reached h undid ok some = let within = ok.within in record { all = ok.all; within = omega arith; depth = ok.depth }
event_run reached h redid ok some = record { all = ok.all; within = omega arith; depth = ok.depth }
event_run reached h (cut steps) ok some = rewound_run reached steps h ok some
event_run reached h forgot ok can = without_undone_run h ok

pub events_run : LimitsAreReached → (h : History) (events : List Event) → StringsRun h → AllHappen h events → StringsRun (after_events h events)
unfolding after_events AllHappen
events_run reached h [] ok can = ok
events_run reached h (e ∷ events) ok can = events_run reached (after_event h e) events (event_run reached h e ok can.0) can.1

pub strings_run : LimitsAreReached → (depth : Option ℕ) (first : State) (events : List Event) → AllHappen (history_from depth first) events
    → StringsRun (after_events (history_from depth first) events)
strings_run reached depth first events can =
    events_run reached (history_from depth first) events (record { all = tt; within = omega arith; depth = beyond_none depth }) can
