-- A session that was undone, and whose string did not run, is redone to where it was; and one that is rewound.
use Rattle.std.proofs.Common.{◌≡◌, ℕ, ◌+◌, ◌-◌, ◌<◌, ◌≤◌, List, [], ◌∷◌, ◌++◌, length, min, get_or, Ok, Err, refl, sym, ◌∙◌, ap, subst, arith}
use Rattle.std.specs.Prelude.{Result, IsOk, OnOk}
use Rattle.std.proofs.Math.Nat.{min-eq_left}
use Rattle.std.proofs.lemmas.Bool.{false≢true}
use Rattle.std.proofs.lemmas.List.{length-append}
use Rattle.teco_exec.specs.declared.outcome.Outcome.{Outcome}
use Rattle.teco_store.specs.State.{State}
use Rattle.teco_session.specs.History.{History, NotedString, appended, redone, rewound, undone, with_steps}
use Rattle.teco_session.specs.Step.{RunStep}
use Rattle.teco_session.specs.declared.request.Answer.{Answer}
use Rattle.teco_session.specs.declared.request.Answer.TheVariants.{Ended, NotBegun, AfterExit, Undone, NothingToUndo, Redone, NothingToRedo, Rewound}
use Rattle.teco_debugger.specs.Walk.{after_all, meant, walked}
use Rattle.teco_debugger.proofs.Walked.{appended_walked, back_one}

-- A string that does not run leaves the history as it was.
pub stays_unended : (limit : ℕ) (old : History) (text : List ℕ) (answer : Answer) (typed : List ℕ) (new : History) → RunStep limit old text answer typed new → ((x : Outcome) → answer ≡ Ended x → ⊥) → new ≡ old
stays_unended limit old text (Ended x) typed new run unended = absurd (unended x refl)
stays_unended limit old text AfterExit typed new run unended = run.2
stays_unended limit old text NotBegun typed new run unended = run.2
stays_unended limit old text Undone typed new run unended = absurd run
stays_unended limit old text NothingToUndo typed new run unended = absurd run
stays_unended limit old text Redone typed new run unended = absurd run
stays_unended limit old text NothingToRedo typed new run unended = absurd run
stays_unended limit old text Rewound typed new run unended = absurd run

pub on_ok : {T E : Type 0} (r : Result T E) {P : Type 0} → IsOk r → OnOk r P → P
on_ok (Ok x) ok p = p
on_ok (Err e) ok p = absurd (false≢true ok)

-- An undo of the string comes back to before it.
pub gone_back : {T E : Type 0} (undo : Result T E) (first : State) (before : List NotedString) (text : List ℕ) (steps : ℕ) (was there : History) → was ≡ walked first before text steps
    → (0 < was.cursor → IsOk undo) → OnOk undo (there ≡ undone was) → there ≡ undone (walked first before text steps)
gone_back undo first before text steps was there came can_undo is_undone =
    on_ok undo (can_undo (subst (λ (h : History). 0 < h.cursor) (sym came) (omega arith))) is_undone ∙ ap undone came

forth_again : (first : State) (before : List NotedString) (text : List ℕ) (steps : ℕ) → redone (undone (walked first before text steps)) ≡ walked first before text steps
forth_again first before text steps = ap (λ (c : ℕ). let h : History = record (walked first before text steps) { cursor = c } in h) (let e : length before + 1 - 1 + 1 ≡ length before + 1 = omega arith in e)

-- An undo and then a redo of the string come back to it.
pub came_again : {T E U F : Type 0} (undo : Result T E) (redo : Result U F) (first : State) (before : List NotedString) (text : List ℕ) (steps : ℕ) (was there still after : History) → was ≡ walked first before text steps
    → (0 < was.cursor → IsOk undo) → OnOk undo (there ≡ undone was) → still ≡ there
    → (still.cursor < length still.notes → IsOk redo) → OnOk redo (after ≡ redone still) → after ≡ walked first before text steps
came_again undo redo first before text steps was there still after came can_undo is_undone same can_redo is_redone =
    let here : still ≡ undone (walked first before text steps) = same ∙ gone_back undo first before text steps was there came can_undo is_undone in
    let size = length-append before (record { text = text; steps = steps; state = (meant (after_all first before) text steps).state } ∷ []) in
    let again : after ≡ redone still = on_ok redo (can_redo (subst (λ (h : History). h.cursor < length h.notes) (sym here) (omega (arith, size)))) is_redone in
    again ∙ ap redone here ∙ forth_again first before text steps

at_seam : (before : List NotedString) (note other : NotedString) → get_or (before ++ note ∷ []) (length before) other ≡ note
at_seam [] note other = refl
at_seam (x ∷ before) note other = at_seam before note other

-- the string itself
pub last_at : (first : State) (before : List NotedString) (text : List ℕ) (steps i : ℕ) (other : NotedString) → i ≡ length before → get_or (walked first before text steps).notes i other
    ≡ record { text = text; steps = steps; state = (meant (after_all first before) text steps).state }
last_at first before text steps i other at = ap (λ n. get_or (walked first before text steps).notes n other) at ∙ at_seam before _ other

cut_note : (n : ℕ) (s t : State) (note other : NotedString) → s ≡ t → note ≡ other → with_steps (min n note.steps) s note ≡ with_steps (min n other.steps) t other
cut_note n s t note other e h = rw (e, h) refl

cut_walked : (n : ℕ) (first : State) (before : List NotedString) (text : List ℕ) (steps : ℕ) → rewound n (walked first before text steps) ≡ walked first before text (min n steps)
cut_walked n first before text steps =
    ap (appended (undone (walked first before text steps))) (cut_note n _ _ _ _ refl (last_at first before text steps (length before + 1 - 1) _ (back_one (length before))))
    ∙ appended_walked first before text steps (min n steps) _ refl

-- A rewind of the string leaves its first steps.
pub cut_back : {T E : Type 0} (rewind : Result T E) (n : ℕ) (first : State) (before : List NotedString) (text : List ℕ) (steps : ℕ) (was there : History) → was ≡ walked first before text steps → n ≤ steps
    → (0 < was.cursor → IsOk rewind) → OnOk rewind (there ≡ rewound n was) → there ≡ walked first before text n
cut_back rewind n first before text steps was there came within can_rewind is_rewound =
    on_ok rewind (can_rewind (subst (λ (h : History). 0 < h.cursor) (sym came) (omega arith))) is_rewound ∙ ap (rewound n) came
    ∙ cut_walked n first before text steps ∙ ap (walked first before text) (min-eq_left within)
