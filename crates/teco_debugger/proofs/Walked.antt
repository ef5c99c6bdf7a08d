-- The history of a session whose last string is walked, after other strings.
use Rattle.std.proofs.Common.{◌≡◌, ℕ, zero, suc, ◌+◌, ◌-◌, ◌<◌, ◌≤◌, List, [], ◌∷◌, ◌++◌, length, take, get_or, Option, None, refl, sym, ◌∙◌, ap, arith, subst}
use Rattle.std.proofs.Math.Seq.{take-append_seam, take-length}
use Rattle.std.proofs.lemmas.List.{length-append, length-take-le, take_more}
use Rattle.teco_store.specs.State.{State}
use Rattle.teco_exec.specs.StringMeaning.{string_meaning}
use Rattle.teco_session.specs.History.{AreMeant, History, NotedString, appended, noted, present, state_after, undone}
use Rattle.teco_session.specs.Strings.{beyond}
use Rattle.teco_replay.proofs.KeptEvents.{state_last}
use Rattle.teco_replay.proofs.Later.{beyond_few, noted_whole, present_later, same_history}
use Rattle.teco_replay.proofs.Runs.{appended_length}
use Rattle.teco_replay.specs.Told.{after_events}
use Rattle.teco_journal.specs.Events.{ran}
use Rattle.teco_debugger.specs.Walk.{after_all, before_last, led, meant, walked}

pub back_one : (n : ℕ) → n + 1 - 1 ≡ n
back_one n = omega arith

kept_before : (before : List NotedString) (note : NotedString) → take (length before + 1 - 1) (before ++ note ∷ []) ≡ before
kept_before before note = ap (λ n. take n (before ++ note ∷ [])) (back_one (length before)) ∙ take-append_seam before (note ∷ [])

-- the strings before that one
pub before_is : (h : History) (first : State) (before : List NotedString) (text : List ℕ) (n : ℕ) → h ≡ walked first before text n → before_last h ≡ before
before_is h first before text n e = ap before_last e ∙ kept_before before _

-- a history that is so is so with the strings that it has there
pub is_walked : (h : History) (first : State) (before : List NotedString) (text : List ℕ) (n : ℕ) → h ≡ walked first before text n → h ≡ walked first (before_last h) text n
is_walked h first before text n e = e ∙ ap (λ b. walked first b text n) (sym (before_is h first before text n e))

up_to : (s : State) (notes more : List NotedString) → state_after s (notes ++ more) (length notes) ≡ after_all s notes
up_to s [] more = refl
up_to s (x ∷ notes) more = up_to x.state notes more

-- the state before the string
pub base_is : (first : State) (before : List NotedString) (text : List ℕ) (n i : ℕ) → i ≡ length before → state_after first (walked first before text n).notes i ≡ after_all first before
base_is first before text n i at = ap (state_after first (walked first before text n).notes) at ∙ up_to first before _

pub undone_base : (first : State) (before : List NotedString) (text : List ℕ) (n : ℕ) → present (undone (walked first before text n)) ≡ after_all first before
undone_base first before text n = base_is first before text n (length before + 1 - 1) (back_one (length before))

same_note : (text : List ℕ) (n : ℕ) (s t : State) → s ≡ t → (let x : NotedString = record { text = text; steps = n; state = s } in x) ≡ record { text = text; steps = n; state = t }
same_note text n s t e = ap (λ (z : State). let x : NotedString = record { text = text; steps = n; state = z } in x) e

joined : (xs ys : List NotedString) (a b : NotedString) → xs ≡ ys → a ≡ b → xs ++ a ∷ [] ≡ ys ++ b ∷ []
joined xs ys a b e h = rw (e, h) refl

-- a string in the place of that one, from the state before it
pub appended_walked : (first : State) (before : List NotedString) (text : List ℕ) (n k : ℕ) (s : State) → s ≡ (meant (present (undone (walked first before text n))) text k).state
    → appended (undone (walked first before text n)) (record { text = text; steps = k; state = s }) ≡ walked first before text k
appended_walked first before text n k s e =
    same_history first first _ _ _ _ None refl
    (joined _ _ _ _ (kept_before before _) (same_note text k _ _ (e ∙ ap (λ z. (meant z text k).state) (undone_base first before text n))))
    (omega arith)

pub noted_walked : (first : State) (before : List NotedString) (text : List ℕ) (n k : ℕ) (s : State) → s ≡ (meant (present (undone (walked first before text n))) text k).state
    → noted (undone (walked first before text n)) (record { text = text; steps = k; state = s }) ≡ walked first before text k
noted_walked first before text n k s e = noted_whole (undone (walked first before text n)) _ refl ∙ appended_walked first before text n k s e

-- the state after some of the strings is that after all of just these
pub taken : (s : State) (notes : List NotedString) (n : ℕ) → after_all s (take n notes) ≡ state_after s notes n
taken s notes zero = refl
taken s [] (suc n) = refl
taken s (x ∷ notes) (suc n) = taken x.state notes n

-- the first string that is walked after those that are done
pub noted_first : (h : History) (text : List ℕ) (k : ℕ) (s : State) → h.depth ≡ None → h.cursor ≤ length h.notes → s ≡ (meant (present h) text k).state
    → noted h (record { text = text; steps = k; state = s }) ≡ walked h.first (take h.cursor h.notes) text k
noted_first h text k s none within e =
    noted_whole h _ none
    ∙ ap (λ (d : Option ℕ). let x : History = record { first = h.first; notes = take h.cursor h.notes ++ record { text = text; steps = k; state = s } ∷ []; cursor = h.cursor + 1; depth = d } in x) none
    ∙ same_history h.first h.first _ _ _ _ None refl
    (joined _ _ _ _ refl (same_note text k _ _ (e ∙ ap (λ z. (meant z text k).state) (sym (taken h.first h.notes h.cursor)))))
    (let n = length-take-le h.cursor h.notes within in omega arith)

meant_at : (s : State) (notes : List NotedString) (i : ℕ) (other : NotedString) → AreMeant s notes → i < length notes
    → (get_or notes i other).state ≡ (string_meaning (state_after s notes i) (get_or notes i other).text (get_or notes i other).steps).state
meant_at s [] i other are less = absurd (omega arith)
meant_at s (x ∷ notes) zero other are less = are.0
meant_at s (x ∷ notes) (suc i) other are less = meant_at x.state notes i other are.1 (omega arith)

-- one string more of those that led there
pub led_more : (first : State) (notes : List NotedString) (i : ℕ) (other : NotedString) → AreMeant first notes → i < length notes
    → noted (led first (take i notes)) (record {
      text = (get_or notes i other).text;
      steps = (get_or notes i other).steps;
      state = (string_meaning (present (led first (take i notes))) (get_or notes i other).text (get_or notes i other).steps).state;
    }) ≡ led first (take (i + 1) notes)
led_more first notes i other are less =
    let x : NotedString = get_or notes i other in
    let more : take (i + 1) notes ≡ take i notes ++ x ∷ [] = take_more notes i other less in
    let size : length (take (i + 1) notes) ≡ length (take i notes) + 1 = ap length more ∙ length-append (take i notes) (x ∷ []) in
    noted_whole (led first (take i notes)) _ refl
    ∙ same_history first first _ _ _ _ None refl
    (joined _ _ _ _ (take-length (take i notes)) (same_note x.text x.steps _ _ (ap (λ z. (string_meaning z x.text x.steps).state) (taken first notes i) ∙ sym (meant_at first notes i other are less))) ∙ sym more)
    (sym size)

-- A string that is noted leaves its state.
pub present_noted : (h : History) (note : NotedString) → h.cursor ≤ length h.notes → present (noted h note) ≡ note.state
present_noted h note within =
    let all : List NotedString = (appended h note).notes in
    let size : length all ≡ h.cursor + 1 = appended_length h note within in
    let few = beyond_few h.depth (length all) in
    present_later (beyond h.depth (length all)) (appended h note) h.depth (omega (arith, few, size))
    ∙ ap (state_after h.first all) (sym size) ∙ state_last h.first (take h.cursor h.notes) note

first_meant : (s : State) (notes : List NotedString) (n : ℕ) → AreMeant s notes → AreMeant s (take n notes)
first_meant s notes zero are = tt
first_meant s [] (suc n) are = tt
first_meant s (x ∷ notes) (suc n) are = (are.0, first_meant x.state notes n are.1)

at_front : (notes : List NotedString) (n i : ℕ) (other one : NotedString) → i < length (take n notes) → get_or (take n notes) i other ≡ get_or notes i one
at_front notes zero i other one less = absurd (omega arith)
at_front [] (suc n) i other one less = absurd (omega arith)
at_front (x ∷ notes) (suc n) zero other one less = refl
at_front (x ∷ notes) (suc n) (suc i) other one less = at_front notes n i other one (omega arith)

-- a string of the walk's session, run again after those before it
pub run_again : (h old new : History) (first : State) (i steps : ℕ) (text : List ℕ) (other : NotedString) → h.first ≡ first → AreMeant h.first h.notes → i < length (before_last h)
    → old ≡ led first (take i (before_last h)) → text ≡ (get_or h.notes i other).text → steps ≡ (get_or h.notes i other).steps
    → new ≡ after_events old (ran steps text ∷ []) → new ≡ led first (take (i + 1) (before_last h))
unfolding after_events
run_again h old new first i steps text other begin are less was text_is steps_is now =
    let before : List NotedString = before_last h in
    let here : get_or before i other ≡ get_or h.notes i other = at_front h.notes (h.cursor - 1) i other other less in
    let meant : AreMeant first before = subst (λ s. AreMeant s before) begin (first_meant h.first h.notes (h.cursor - 1) are) in
    let ran_so : (t : List ℕ) (k : ℕ) → History = λ t k. noted (led first (take i before)) (record { text = t; steps = k; state = (string_meaning (present (led first (take i before))) t k).state }) in
    now ∙ ap (λ (x : History). after_events x (ran steps text ∷ [])) was
    ∙ ap (λ t. ran_so t steps) (text_is ∙ sym (ap (λ (x : NotedString). x.text) here)) ∙ ap (ran_so (get_or before i other).text) (steps_is ∙ sym (ap (λ (x : NotedString). x.steps) here))
    ∙ led_more first before i other meant less

-- how many strings come before that one
pub before_length : (h : History) (first : State) (before : List NotedString) (text : List ℕ) (n : ℕ) → h ≡ walked first before text n → h.cursor - 1 ≡ length before
before_length h first before text n e = ap (λ (x : History). x.cursor - 1) e ∙ back_one (length before)

-- the state after it
pub present_walked : (first : State) (before : List NotedString) (text : List ℕ) (n : ℕ) → present (walked first before text n) ≡ (meant (after_all first before) text n).state
present_walked first before text n =
    let note : NotedString = record { text = text; steps = n; state = (meant (after_all first before) text n).state } in
    let size : length (before ++ note ∷ []) ≡ length before + 1 = length-append before (note ∷ []) in
    ap (state_after first (before ++ note ∷ [])) (sym size) ∙ state_last first before note
