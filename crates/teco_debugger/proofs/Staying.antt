-- A part that none of the later changes is for stays as it is.
use Rattle.std.proofs.Common.{◌≡◌, ◌≢◌, ℕ, ◌<◌, ◌≤◌, inl, inr, List, [], ◌∷◌, length, Option, Some, None, Bool, true, false, if◌then◌else◌, ◌==◌, refl, sym, ◌∙◌, ap, subst, arith, get_or-set_other, eq-eqb}
use Rattle.std.proofs.lemmas.Bool.{cases_lt}
use Rattle.std.proofs.lemmas.Option.{none-some}
use Rattle.teco_core.specs.Register.{blank}
use Rattle.teco_store.specs.State.{StateOver, Body, Full, state_at}
use Rattle.teco_store.specs.Trail.{Trail}
use Rattle.teco_store.specs.Turn.{Turn, Note, Splice, Lend, PutIn, TakeOut, Point, Number, Text, Push, TakeOff, PopInto, PutBack, Pages, Search, Found, Done, Mode, body_after}
use Rattle.teco_store.specs.Kinds.{kind_of}
use Rattle.teco_undo.specs.Entry.{body_back, since}
use Rattle.teco_undo.specs.Follows.{AreMarked, HasCome}
use Rattle.teco_undo.proofs.Recordings.{since_low, since_high}
use Rattle.teco_debugger.specs.Finding.{SamePart, is_for, last_change, or_else, step_before}
use Rattle.teco_debugger.specs.declared.part.Part.{Part}
use Rattle.teco_debugger.specs.declared.part.Part.TheVariants.{Buffer, Register}

same_refl : {O : Type 0} (part : Part) (s : StateOver O) → SamePart part s s
same_refl Buffer s = refl
same_refl (Register q) s = refl

same_then : {O : Type 0} (part : Part) (s t u : StateOver O) → SamePart part s t → SamePart part t u → SamePart part s u
same_then Buffer s t u e h = h ∙ e
same_then (Register q) s t u e h = h ∙ e

same_turned : {O : Type 0} (part : Part) (s t : StateOver O) → SamePart part s t → SamePart part t s
same_turned Buffer s t e = sym e
same_turned (Register q) s t e = sym e

-- a body and the state that it is
same_at : (part : Part) (stored : List ℕ) (b c : Body) → SamePart part b c → SamePart part (state_at stored b) (state_at stored c)
same_at Buffer stored b c e = e
same_at (Register q) stored b c e = e

-- a register that is not the one
other_register : (step q r : ℕ) → (if r == q then Some step else None) ≡ None → q ≢ r
other_register step q r e same = none-some step (sym e ∙ ap (λ b. if b then Some step else None) (eq-eqb r q (sym same)))

other_turn : (part : Part) (step : ℕ) (t : Turn) (b : Body) → (if is_for part (kind_of t) then Some step else None) ≡ None → SamePart part (body_after t b) b
other_turn Buffer step (Splice at there pointer held) b e = absurd (none-some step (sym e))
other_turn Buffer step (Lend from count there_from there pointer) b e = absurd (none-some step (sym e))
other_turn Buffer step (PutIn held pointer) b e = absurd (none-some step (sym e))
other_turn Buffer step (TakeOut held pointer) b e = absurd (none-some step (sym e))
other_turn Buffer step (Point pointer) b e = refl
other_turn Buffer step (Number q n) b e = refl
other_turn Buffer step (Text q held) b e = refl
other_turn Buffer step (Push held) b e = refl
other_turn Buffer step TakeOff b e = refl
other_turn Buffer step (PopInto q) b e = refl
other_turn Buffer step (PutBack q held) b e = refl
other_turn Buffer step (Pages place output form_feed) b e = refl
other_turn Buffer step (Search held) b e = refl
other_turn Buffer step (Found found) b e = refl
other_turn Buffer step (Done done) b e = refl
other_turn Buffer step (Mode mode) b e = refl
other_turn (Register q) step (Splice at there pointer held) b e = refl
other_turn (Register q) step (Lend from count there_from there pointer) b e = refl
other_turn (Register q) step (PutIn held pointer) b e = refl
other_turn (Register q) step (TakeOut held pointer) b e = refl
other_turn (Register q) step (Point pointer) b e = refl
other_turn (Register q) step (Number r n) b e = let ne : q ≢ r = other_register step q r e in sym (get_or-set_other b.registers r q _ blank ne)
other_turn (Register q) step (Text r held) b e = let ne : q ≢ r = other_register step q r e in sym (get_or-set_other b.registers r q _ blank ne)
other_turn (Register q) step (Push held) b e = refl
other_turn (Register q) step TakeOff b e = refl
other_turn (Register q) step (PopInto r) b e = let ne : q ≢ r = other_register step q r e in sym (get_or-set_other b.registers r q _ blank ne)
other_turn (Register q) step (PutBack r held) b e = let ne : q ≢ r = other_register step q r e in sym (get_or-set_other b.registers r q _ blank ne)
other_turn (Register q) step (Pages place output form_feed) b e = refl
other_turn (Register q) step (Search held) b e = refl
other_turn (Register q) step (Found found) b e = refl
other_turn (Register q) step (Done done) b e = refl
other_turn (Register q) step (Mode mode) b e = refl

later_none : (a b : Option ℕ) → or_else a b ≡ None → a ≡ None
later_none None b e = refl
later_none (Some n) b e = e

first_none : (a b : Option ℕ) → or_else a b ≡ None → b ≡ None
first_none None b e = e
first_none (Some n) b e = absurd (none-some n (sym e))

-- changes that are not for the part, turned back
pub same_back : (part : Part) (cs : List Note) (b : Body) → last_change part cs ≡ None → SamePart part (body_back cs b) b
unfolding last_change
same_back part [] b e = same_refl part b
same_back part (c ∷ cs) b e =
    same_then part (body_back (c ∷ cs) b) (body_back cs b) b
    (other_turn part c.step c.turn (body_back cs b) (first_none (last_change part cs) (step_before part c) e))
    (same_back part cs b (later_none (last_change part cs) (step_before part c) e))

step_is : (part : Part) (c : Note) (m : ℕ) → step_before part c ≡ Some m → c.step ≡ m
step_is part c m e = go (is_for part (kind_of c.turn)) e
  where
    go : (x : Bool) → (if x then Some c.step else None) ≡ Some m → c.step ≡ m
    go true h = cc
    go false h = absurd (none-some m h)

-- the last change comes no earlier than the first of some
is_late : (part : Part) (low high m : ℕ) (cs : List Note) → AreMarked low high cs → last_change part cs ≡ Some m → (low ≤ m) × (m ≤ high)
unfolding last_change
is_late part low high m [] h e = absurd (none-some m e)
is_late part low high m (c ∷ cs) h e = go (is_late part c.step high m cs h.1) (last_change part cs) refl e
  where
    go : (last_change part cs ≡ Some m → (c.step ≤ m) × (m ≤ high)) → (o : Option ℕ) → last_change part cs ≡ o → or_else o (step_before part c) ≡ Some m
        → (low ≤ m) × (m ≤ high)
    go rest (Some n) was e' =
        let later = rest (was ∙ e') in
        let first = h.0.0 in
        let from = later.0 in
        (omega (arith, first, from), later.1)
    go rest None was e' =
        let at = step_is part c m e' in
        let first = h.0.0 in
        let last = h.0.1 in
        (omega (arith, first, at), omega (arith, last, at))

-- the changes since a step
from_since : (low high i : ℕ) (cs : List Note) → AreMarked low high cs → AreMarked i high (since i cs)
from_since low high i [] h = tt
from_since low high i (c ∷ cs) h = elim (cases_lt c.step i) [
  | inl l ↦ subst (AreMarked i high) (sym (since_low i c cs l)) (from_since c.step high i cs h.1)
  | inr g ↦ subst (AreMarked i high) (sym (since_high i c cs g)) ((g, h.0.1), h.1)
]

in_since : (part : Part) (i m : ℕ) (cs : List Note) → last_change part (since i cs) ≡ Some m → last_change part cs ≡ Some m
unfolding last_change
in_since part i m [] e = e
in_since part i m (c ∷ cs) e = elim (cases_lt c.step i) [
  | inl l ↦ ap (λ o. or_else o (step_before part c)) (in_since part i m cs (sym (ap (last_change part) (since_low i c cs l)) ∙ e))
  | inr g ↦ sym (ap (last_change part) (since_high i c cs g)) ∙ e
]

-- since a step that is past the last change, none is for the part
none_since : (part : Part) (low high i : ℕ) (cs : List Note) → AreMarked low high cs → ((m : ℕ) → last_change part cs ≡ Some m → m < i) → last_change part (since i cs) ≡ None
none_since part low high i cs h past = go (last_change part (since i cs)) refl
  where
    go : (o : Option ℕ) → last_change part (since i cs) ≡ o → last_change part (since i cs) ≡ None
    go None e = e
    go (Some m) e =
        let late = is_late part i high m (since i cs) (from_since low high i cs h) e in
        absurd (omega (arith, late.0, past m (in_since part i m cs e)))

-- Where no change is since a step, all were made before it.
all_before : (part : Part) (low high i m : ℕ) (cs : List Note) → AreMarked low high cs → since i cs ≡ [] → last_change part cs ≡ Some m → m < i
unfolding last_change
all_before part low high i m [] h none e = absurd (none-some m e)
all_before part low high i m (c ∷ cs) h none e = elim (cases_lt c.step i) [
  | inl l ↦ go l (all_before part c.step high i m cs h.1 (sym (since_low i c cs l) ∙ none)) (last_change part cs) refl e
  | inr g ↦ cc (since_high i c cs g)
]
  where
    go : c.step < i → (last_change part cs ≡ Some m → m < i) → (o : Option ℕ) → last_change part cs ≡ o → or_else o (step_before part c) ≡ Some m → m < i
    go l rest (Some n) was e' = rest (was ∙ e')
    go l rest None was e' = let at = step_is part c m e' in omega (arith, l, at)

nothing_left : (cs : List Note) → length cs ≤ 0 → cs ≡ []
nothing_left [] h = refl
nothing_left (c ∷ cs) h = absurd (omega (arith, h))

-- what has come through a trail: the part after a step past its last change, and where the editor stands
stays_at : (part : Part) (f : Full) (notes : List Note) (steps i : ℕ) (t : Trail) → HasCome f notes steps t → ((m : ℕ) → last_change part notes ≡ Some m → m < i) → i ≤ t.steps
    → SamePart part (t.states i) (state_at f.stored f.body)
stays_at part f notes steps i t come past le =
    subst (λ s. SamePart part s (state_at f.stored f.body)) (come.leads.states i le)
    (same_at part f.stored (body_back (since i notes) f.body) f.body
    (same_back part (since i notes) f.body (none_since part 0 t.steps i notes come.turns.marked past)))

pub stays : (part : Part) (f : Full) (notes : List Note) (steps i k : ℕ) (t : Trail) → HasCome f notes steps t → ((m : ℕ) → last_change part notes ≡ Some m → m < k) → k ≤ i → i ≤ t.steps
    → SamePart part (t.states i) (t.states t.steps)
stays part f notes steps i k t come past from le =
    let here : (m : ℕ) → last_change part notes ≡ Some m → m < i = λ m e. omega (arith, past m e, from) in
    let there : (m : ℕ) → last_change part notes ≡ Some m → m < t.steps = λ m e. omega (arith, past m e, from, le) in
    let now = state_at f.stored f.body in
    same_then part (t.states i) now (t.states t.steps) (stays_at part f notes steps i t come here le)
    (same_turned part (t.states t.steps) now (stays_at part f notes steps t.steps t come there (omega arith)))

pub was_made : (part : Part) (f : Full) (notes : List Note) (steps m : ℕ) (t : Trail) → HasCome f notes steps t → t.changes ≡ 0 → last_change part notes ≡ Some m → m < t.steps
was_made part f notes steps m t come none e =
    all_before part 0 t.steps t.steps m notes come.turns.marked (nothing_left (since t.steps notes) (omega (arith, come.within.present, none))) e
