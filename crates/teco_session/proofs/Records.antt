-- What a run on a recorder leaves.
use Rattle.std.proofs.Common.{◌≡◌, ℕ, ◌≤◌, List, length, refl, sym, ◌∙◌, ap, subst, arith}
use Rattle.teco_store.specs.State.{State, Full, IsSound, state_at, state_of}
use Rattle.teco_store.specs.Trail.{Trail}
use Rattle.teco_store.specs.Turn.{Note as Change}
use Rattle.teco_undo.specs.Entry.{body_back}
use Rattle.teco_undo.specs.Follows.{Recording, HasCome, Follows, LeadsBack}
use Rattle.teco_undo.specs.RecordLaws.{LeadsToItsBeginning}
use Rattle.teco_exec.specs.Laws.{ZeroLimitChangesNothing}
use Rattle.teco_exec.specs.Runs.{trail_of}
use Rattle.teco_session.specs.Strings.{KeptString}
use Rattle.teco_session.specs.Kept.{HasRun}

-- a string that was run, as it is kept
abbrev pub kept_run : (text : List ℕ) (steps : ℕ) (changes : List Change) → KeptString
kept_run text steps changes = record { text = text; steps = steps; changes = changes }

-- what a run on a recorder has left
pub record RunLeft (old new : Full) (text : List ℕ) (k : ℕ) (changes : List Change) : Type 0 where
  pub leads : LeadsBack old new changes
  pub run : HasRun new (kept_run text k changes)

-- where the changes lead back to
back_to : (old new : Full) (changes : List Change) → LeadsBack old new changes → state_at new.stored (body_back changes new.body) ≡ state_of old
back_to old new changes l =
    ap (state_at new.stored) l.body
    ∙ ap (λ (bytes : List ℕ). let s : State = record (state_of old) { output = bytes } in s) l.stored

followed : LeadsToItsBeginning → ZeroLimitChangesNothing → (old : Full) (r : Recording) (text : List ℕ) (k : ℕ) → IsSound old.room (length old.stored) old.body
    → Follows r (trail_of (state_of old) text old.room k) → Follows r (trail_of (state_of old) text 0 k) → RunLeft old r.full text k r.notes
followed law zero old r text k sound f low =
    let l = law old r (trail_of (state_of old) text old.room k) sound (zero (state_of old) text).state refl f in
    record {
      leads = l;
      run = subst (λ (s : State). HasCome r.full r.notes k (trail_of s text 0 k)) (sym (back_to old r.full r.notes l))
          (subst (λ (n : ℕ). HasCome r.full r.notes n (trail_of (state_of old) text 0 k)) low.leads.done low);
    }

pub run_left : LeadsToItsBeginning → ZeroLimitChangesNothing → (old from new : Full) (r0 r : Recording) (text : List ℕ) (k : ℕ) (changes : List Change) → IsSound old.room (length old.stored) old.body
    → from ≡ old → state_of r0.full ≡ state_of from
    → ((t : Trail) → t.steps ≡ 0 → t.states 0 ≡ state_of from → t.floor ≤ from.room → Follows r0 t)
    → ((floor : ℕ) → Follows r0 (trail_of (state_of r0.full) text floor 0) → Follows r (trail_of (state_of r0.full) text floor k))
    → new ≡ r.full → changes ≡ r.notes → RunLeft old new text k changes
run_left law zero old from new r0 r text k changes sound ef er begins run en em =
    let same : state_of r0.full ≡ state_of old = er ∙ ap state_of ef in
    let last : (floor : ℕ) → floor ≤ old.room → Follows r (trail_of (state_of old) text floor k) =
    λ floor low.
    let first : Follows r0 (trail_of (state_of old) text floor 0) =
    begins (trail_of (state_of old) text floor 0) refl ((zero (state_of old) text).state ∙ ap state_of (sym ef)) (let e : old.room ≡ from.room = ap (λ (f : Full). f.room) (sym ef) in omega arith) in
    subst (λ (s : State). Follows r0 (trail_of s text floor 0) → Follows r (trail_of s text floor k)) same (run floor) first in
    let l : RunLeft old r.full text k r.notes = followed law zero old r text k sound (last old.room (omega arith)) (last 0 (omega arith)) in
    subst (λ (cs : List Change). RunLeft old new text k cs) (sym em) (subst (λ (f : Full). RunLeft old f text k r.notes) (sym en) l)
