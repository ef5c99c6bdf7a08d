-- Texts that are called: how their copy begins, and what their end is to the text that called.
use Rattle.std.proofs.Common.{◌≡◌, ℕ, true, is_some, ◌+◌, ◌<◌, ◌≤◌, List, ◌∷◌, length, Option, Some, None, refl, sym, subst}
use Rattle.teco_core.specs.Arguments.{Arguments}
use Rattle.teco_store.specs.State.{State}
use Rattle.teco_store.specs.Trail.{Trail, most_changes, moved, stepped}
use Rattle.teco_exec.specs.Machine.{Caller}
use Rattle.teco_scan.specs.Breaks.{IsTokenPlace}
use Rattle.teco_exec.specs.CursorMoves.{Frame}
use Rattle.teco_exec.specs.Places.{Told, with_call}
use Rattle.teco_exec.specs.Running.{caller, Host, Origin, Reaches, ReachesContinuation, RunGoesOn, Tells, at_beginning, at_register_call, code_left, reached_after_call, reached_by_exit}
use Rattle.teco_exec.specs.View.{cursor}
use Rattle.teco_exec.specs.declared.cursor.Cursor.{Cursor}
use Rattle.teco_exec.specs.declared.flow.Exit.{Exit}
use Rattle.teco_exec.specs.declared.flow.Exit.TheVariants as ending
use Rattle.teco_exec.proofs.Continuations.{enters}
use Rattle.teco_exec.proofs.Going.{host_of}
use Rattle.teco_exec.proofs.Stepped.{call_leads, text_in}

-- After the step that calls it, a copy of the text is at its beginning.
pub enters_copy : (c : Cursor) (q : ℕ) (callers : List Caller) (o : Origin) (h : Host) → RunGoesOn o h (at_register_call c q callers)
    → (steps : ℕ) → steps ≡ h.steps + 1 → (same : State) → same ≡ h.state → (G : Trail → Type 0) → ((u : Trail) → h.follows u → h.follows (moved u 0))
    → ((u : Trail) → h.follows u → u.changes ≤ most_changes → steps ≡ u.steps + 1 → u.states steps ≡ h.state → u.load ≤ u.loads steps → G (stepped u))
    → (text : List ℕ) → text ≡ text_in c q callers h.state → length callers < 32
    → ReachesContinuation o h (host_of same G h.screen steps) (at_beginning c.text.profile (cursor c).args text (caller c ∷ callers))
enters_copy c q callers o h g steps count same is_same G eases marks text is few =
    let there = call_leads c q callers o h g steps count same is_same G eases marks text is in
    record { going = (enters o (host_of same G h.screen steps) c text callers there.going few).going; follows = there.follows }

-- Where a called text ends the run, that is the end of the text that called too.
pub ends_around : (limit : ℕ) (o : Origin) (h k : Host) (a : Arguments) (c : Cursor) (callers : List Caller) (x : Exit) → (x ≡ ending.Return → ⊥)
    → Reaches limit o h k (reached_after_call c callers x) → Reaches limit o h k (reached_by_exit c.text.profile a callers x)
ends_around limit o h k a c callers ending.Return on r = absurd (on refl)
ends_around limit o h k a c callers ending.Over on r = r
ends_around limit o h k a c callers (ending.Fail code) on r = r
ends_around limit o h k a c callers (ending.Stop code) on r = r

-- What a watch has been told of a called text, it knows of the text that called.
pub tells_on : (knows : Option Told → Type 0) (P Q : Told → Type 0) (x : Exit) (done : ℕ) → Tells knows x done P → ((p : Told) → P p → Q p) → Tells knows x done Q
tells_on knows P Q ending.Return done t on = t
tells_on knows P Q ending.Over done t on = t
tells_on knows P Q (ending.Fail code) done t on = (t.0, t.1, t.2, on t.0 t.3)
tells_on knows P Q (ending.Stop code) done t on = (t.0, t.1, t.2, on t.0 t.3)

-- A text that ends by no code has told nothing; one that ends by a code has told a place, and the call is told then.
pub tells_around : {W : Type 0} (k : W → Option Told → Type 0) (old new : W) (P Q : Told → Type 0) (x : Exit) (done : ℕ) (text : List ℕ) (at q : ℕ) (blocks : List Frame)
    → (code_left x ≡ None → new ≡ old) → (is_some (code_left x) ≡ true → (p : Told) → k old (Some p) → (to : ℕ) × IsTokenPlace text at to × k new (Some (with_call p q to blocks)))
    → Tells (k old) x done P → ((p : Told) (to : ℕ) → P p → IsTokenPlace text at to → Q (with_call p q to blocks)) → Tells (k new) x done Q
tells_around k old new P Q ending.Return done text at q blocks none some t on = subst (λ w. k w None) (sym (none refl)) t
tells_around k old new P Q ending.Over done text at q blocks none some t on = subst (λ w. k w None) (sym (none refl)) t
tells_around k old new P Q (ending.Fail code) done text at q blocks none some t on = let m = some refl t.0 t.1 in (with_call t.0 q m.0 blocks, m.2, t.2, on t.0 m.0 t.3 m.1)
tells_around k old new P Q (ending.Stop code) done text at q blocks none some t on = let m = some refl t.0 t.1 in (with_call t.0 q m.0 blocks, m.2, t.2, on t.0 m.0 t.3 m.1)
