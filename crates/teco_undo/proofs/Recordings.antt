-- What a recorder follows, call by call.
use Rattle.std.proofs.Common.{◌≡◌, ℕ, ◌+◌, ◌<◌, ◌≤◌, List, [], ◌∷◌, ◌++◌, ◌⊎◌, inl, inr, length, take, drop, refl, sym, ◌∙◌, ap, subst, arith, length-append, length-drop, cond}
use Rattle.std.proofs.lemmas.Bool.{cases_lt, lt-ltb, le-ltb}
use Rattle.std.proofs.lemmas.List.{length-take-le, take-take}
use Rattle.teco_core.specs.Register.{Content, texted, content}
use Rattle.teco_store.specs.State.{State, Body, Full, Extends, state_at, state_of}
use Rattle.teco_store.specs.Trail.{Trail, most_changes, moved, stepped}
use Rattle.teco_store.specs.Turn.{Turn, Note, Splice, Lend, PutIn, TakeOut, Point, Number, Text, Push, TakeOff, PopInto, PutBack, Pages, Search, Found, Done, Mode, top_of, Stands, body_after, turn_after, Fits, full_after, FitsFull}
use Rattle.teco_undo.specs.Entry.{body_back, FitsBack, since, before, of_step, weight, load_back}
use Rattle.teco_undo.specs.Follows.{Recording, AreMarked, HasCome, Follows, FollowsAfterChanges, StillFollows, noting, with_note}
use Rattle.teco_undo.proofs.Turns.{fits_after, body_again, content_put}
use Rattle.teco_store.proofs.Sound.{sound_more, sound_within}
use Rattle.teco_undo.proofs.Entries.{fits_more, shown_back_all, shown_fits}

pub body_back-append : (xs ys : List Note) (b : Body) → body_back (xs ++ ys) b ≡ body_back xs (body_back ys b)
body_back-append [] ys b = refl
body_back-append (x ∷ xs) ys b = ap (body_after x.turn) (body_back-append xs ys b)

pub FitsBack-push : (room : ℕ) (xs : List Note) (c : Note) (b : Body) → FitsBack room xs (body_after c.turn b) → Fits room b.output c.turn b → FitsBack room (xs ++ c ∷ []) b
FitsBack-push room [] c b f g = (tt, g)
FitsBack-push room (x ∷ xs) c b f g =
    (FitsBack-push room xs c b f.0 g, subst (λ (y : Body). Fits room y.output x.turn y) (sym (body_back-append xs (c ∷ []) b)) f.1)

pub FitsBack-more : (room room' : ℕ) (xs : List Note) (b : Body) → room ≤ room' → FitsBack room xs b → FitsBack room' xs b
FitsBack-more room room' [] b r f = tt
FitsBack-more room room' (x ∷ xs) b r f =
    (FitsBack-more room room' xs b r f.0, fits_more room room' (body_back xs b).output (body_back xs b).output x.turn (body_back xs b) r (omega arith) f.1)

pub load_back-push : (xs : List Note) (c : Note) (b : Body) → load_back (xs ++ c ∷ []) b ≡ load_back xs (body_after c.turn b) + weight c.turn b
load_back-push [] c b = omega arith
load_back-push (x ∷ xs) c b =
    let rest = load_back-push xs c b in
    let one : weight x.turn (body_back (xs ++ c ∷ []) b) ≡ weight x.turn (body_back xs (body_after c.turn b)) = ap (weight x.turn) (body_back-append xs (c ∷ []) b) in
    omega arith

pub since_low : (i : ℕ) (c : Note) (cs : List Note) → c.step < i → since i (c ∷ cs) ≡ since i cs
since_low i c cs h = ap (λ b. cond b (since i cs) (c ∷ cs)) (lt-ltb c.step i h)

pub since_high : (i : ℕ) (c : Note) (cs : List Note) → i ≤ c.step → since i (c ∷ cs) ≡ c ∷ cs
since_high i c cs h = ap (λ b. cond b (since i cs) (c ∷ cs)) (le-ltb c.step i h)

pub before_low : (i : ℕ) (c : Note) (cs : List Note) → c.step < i → before i (c ∷ cs) ≡ c ∷ before i cs
before_low i c cs h = ap (λ b. cond b (c ∷ before i cs) []) (lt-ltb c.step i h)

pub before_high : (i : ℕ) (c : Note) (cs : List Note) → i ≤ c.step → before i (c ∷ cs) ≡ []
before_high i c cs h = ap (λ b. cond b (c ∷ before i cs) []) (le-ltb c.step i h)

pub since-push : (i : ℕ) (xs : List Note) (c : Note) → i ≤ c.step → since i (xs ++ c ∷ []) ≡ since i xs ++ c ∷ []
since-push i [] c h = since_high i c [] h
since-push i (x ∷ xs) c h = elim (cases_lt x.step i) [
  | inl l ↦ since_low i x (xs ++ c ∷ []) l ∙ since-push i xs c h ∙ sym (ap (λ ys. ys ++ c ∷ []) (since_low i x xs l))
  | inr g ↦ since_high i x (xs ++ c ∷ []) g ∙ sym (ap (λ ys. ys ++ c ∷ []) (since_high i x xs g))
]

pub before-push : (i : ℕ) (xs : List Note) (c : Note) → i ≤ c.step → before i (xs ++ c ∷ []) ≡ before i xs
before-push i [] c h = before_high i c [] h
before-push i (x ∷ xs) c h = elim (cases_lt x.step i) [
  | inl l ↦ before_low i x (xs ++ c ∷ []) l ∙ ap (λ ys. x ∷ ys) (before-push i xs c h) ∙ sym (before_low i x xs l)
  | inr g ↦ before_high i x (xs ++ c ∷ []) g ∙ sym (before_high i x xs g)
]

pub since_all : (low high : ℕ) (xs : List Note) → AreMarked low high xs → since (high + 1) xs ≡ []
since_all low high [] h = refl
since_all low high (x ∷ xs) h = let k = h.0.1 in since_low (high + 1) x xs (omega arith) ∙ since_all x.step high xs h.1

pub before_all : (low high : ℕ) (xs : List Note) → AreMarked low high xs → before (high + 1) xs ≡ xs
before_all low high [] h = refl
before_all low high (x ∷ xs) h = let k = h.0.1 in before_low (high + 1) x xs (omega arith) ∙ ap (λ ys. x ∷ ys) (before_all x.step high xs h.1)

pub AreMarked-push : (low high : ℕ) (xs : List Note) (c : Note) → low ≤ high → c.step ≡ high → AreMarked low high xs → AreMarked low high (xs ++ c ∷ [])
AreMarked-push low high [] c le e h = ((omega arith, omega arith), tt)
AreMarked-push low high (x ∷ xs) c le e h = (h.0, AreMarked-push x.step high xs c h.0.1 e h.1)

pub AreMarked-more : (low high : ℕ) (xs : List Note) → AreMarked low high xs → AreMarked low (high + 1) xs
AreMarked-more low high [] h = tt
AreMarked-more low high (x ∷ xs) h = let k = h.0.1 in ((h.0.0, omega arith), AreMarked-more x.step high xs h.1)

AreMarked-lower : (low low' high : ℕ) (xs : List Note) → low ≤ low' → AreMarked low' high xs → AreMarked low high xs
AreMarked-lower low low' high [] le h = tt
AreMarked-lower low low' high (x ∷ xs) le h = let k = h.0.0 in ((omega arith, h.0.1), h.1)

pub AreMarked-since : (low high i : ℕ) (xs : List Note) → AreMarked low high xs → AreMarked low high (since i xs)
AreMarked-since low high i [] h = tt
AreMarked-since low high i (x ∷ xs) h = elim (cases_lt x.step i) [
  | inl l ↦ subst (AreMarked low high) (sym (since_low i x xs l)) (AreMarked-since low high i xs (AreMarked-lower low x.step high xs h.0.0 h.1))
  | inr g ↦ subst (AreMarked low high) (sym (since_high i x xs g)) h
]

pub FitsBack-since : (room i : ℕ) (xs : List Note) (b : Body) → FitsBack room xs b → FitsBack room (since i xs) b
FitsBack-since room i [] b f = tt
FitsBack-since room i (x ∷ xs) b f = elim (cases_lt x.step i) [
  | inl l ↦ subst (λ (ys : List Note). FitsBack room ys b) (sym (since_low i x xs l)) (FitsBack-since room i xs b f.0)
  | inr g ↦ subst (λ (ys : List Note). FitsBack room ys b) (sym (since_high i x xs g)) f
]

-- both sides together weigh the same when they are swapped
pub weight_after : (t : Turn) (b : Body) → Stands t b → weight (turn_after t b) (body_after t b) ≡ weight t b
weight_after (Splice at there pointer held) b f =
    let taken : length (take there (drop at b.text)) ≡ there = length-take-le there (drop at b.text) (omega (arith, length-drop at b.text, f)) in
    omega arith
weight_after (Lend from count there_from there pointer) b f = omega arith
weight_after (PutIn held pointer) b f = refl
weight_after (TakeOut held pointer) b f = refl
weight_after (Point pointer) b f = refl
weight_after (Number q n) b f = refl
weight_after (Text q held) b f =
    let n : length (content (body_after (Text q held) b).registers q).text ≡ length held =
    ap (λ (c : Content). length c.text) (content_put b.registers q (texted held (content b.registers q)) f) in
    omega arith
weight_after (Push held) b f = refl
weight_after TakeOff b f = refl
weight_after (PopInto q) b f =
    let n : length (content (body_after (PopInto q) b).registers q).text ≡ length (top_of b.pushed).text =
    ap (λ (c : Content). length c.text) (content_put b.registers q (top_of b.pushed) f.0) in
    omega arith
weight_after (PutBack q held) b f =
    let n : length (content (body_after (PutBack q held) b).registers q).text ≡ length held.text =
    ap (λ (c : Content). length c.text) (content_put b.registers q held f) in
    omega arith
weight_after (Pages place output form_feed) b f = refl
weight_after (Search held) b f = omega arith
weight_after (Found found) b f = refl
weight_after (Done done) b f = refl
weight_after (Mode mode) b f = refl

-- a past state is the same where the output is stored as before up to an end that is not before its own
pub state_at-same : (stored stored' : List ℕ) (end : ℕ) (b : Body) → b.output ≤ end → take end stored' ≡ take end stored → state_at stored' b ≡ state_at stored b
state_at-same stored stored' end b h same =
    ap (λ (xs : List ℕ). let s : State = record (state_at stored b) { output = xs } in s)
    (sym (take-take b.output end stored' h) ∙ ap (take b.output) same ∙ take-take b.output end stored h)

-- `d` is put in
come_noted : (r : Recording) (t : Trail) (d : Turn) → Follows r t → FitsFull d r.full → r.full.body.output ≤ (body_after d r.full.body).output
    → Follows (with_note r d) (noting t (weight d r.full.body) 1)
come_noted r t d f fits rises =
    let b : Body = r.full.body in
    let room : ℕ = r.full.room in
    let top : ℕ = length r.full.stored in
    let b' : Body = body_after d b in
    let c : Note = record { step = r.done; turn = turn_after d b } in
    let again : body_after c.turn b' ≡ b = body_again d b fits.0 in
    let wide : Fits room top c.turn b' = fits_after room top d b fits f.turns.sound in
    let narrow : Fits room b'.output c.turn b' = shown_fits room top b'.output c.turn b' wide (subst (λ (x : Body). x.output ≤ b'.output) (sym again) rises) in
    let same_weight : weight c.turn b' ≡ weight d b = weight_after d b fits.0 in
    let back : (i : ℕ) → i ≤ t.steps → body_back (since i (r.notes ++ c ∷ [])) b' ≡ body_back (since i r.notes) b =
    λ i h. let le : i ≤ r.done = let e = f.leads.done in omega arith in
    ap (λ (xs : List Note). body_back xs b') (since-push i r.notes c le) ∙ body_back-append (since i r.notes) (c ∷ []) b' ∙ ap (body_back (since i r.notes)) again in
    let early : (i : ℕ) → i ≤ t.steps → before i (r.notes ++ c ∷ []) ≡ before i r.notes =
    λ i h. let le : i ≤ r.done = let e = f.leads.done in omega arith in before-push i r.notes c le in
    record {
      turns = record {
        floor = f.turns.floor;
        sound = fits.1;
        fits = FitsBack-push room r.notes c b' (subst (λ (x : Body). FitsBack room r.notes x) (sym again) f.turns.fits) narrow;
        marked = AreMarked-push 0 t.steps r.notes c (omega arith) f.leads.done f.turns.marked;
      };
      leads = record {
        done = f.leads.done;
        states = λ i h. ap (state_at r.full.stored) (back i h) ∙ f.leads.states i h;
      };
      within = record {
        loads = λ i h.
            let e : load_back (before i (r.notes ++ c ∷ [])) (body_back (since i (r.notes ++ c ∷ [])) b') ≡ load_back (before i r.notes) (body_back (since i r.notes) b) =
            ap (λ (xs : List Note). load_back xs (body_back (since i (r.notes ++ c ∷ [])) b')) (early i h) ∙ ap (load_back (before i r.notes)) (back i h) in
            subst (λ (m : ℕ). m ≤ t.loads i) (sym e) (f.within.loads i h);
        load =
            let e : load_back (r.notes ++ c ∷ []) b' ≡ load_back r.notes b + weight c.turn b' = load_back-push r.notes c b' ∙ ap (λ (x : Body). load_back r.notes x + weight c.turn b') again in
            let l = f.within.load in omega arith;
        each = λ i h.
            let e : of_step i (r.notes ++ c ∷ []) ≡ of_step i r.notes =
            ap (before (i + 1)) (since-push i r.notes c (let d = f.leads.done in omega arith)) ∙ before-push (i + 1) (since i r.notes) c (let d = f.leads.done in omega arith) in
            subst (λ (xs : List Note). length xs ≤ most_changes) (sym e) (f.within.each i h);
        present =
            let e : length (since t.steps (r.notes ++ c ∷ [])) ≡ length (since t.steps r.notes ++ c ∷ []) =
            ap length (since-push t.steps r.notes c (let d = f.leads.done in omega arith)) in
            let l = f.within.present in omega (arith, length-append (since t.steps r.notes) (c ∷ []));
        count = let l = f.within.count in omega (arith, length-append r.notes (c ∷ []));
      };
    }

-- The parts of a recorder are those of its value `r`; `d` is put in, and what stood there is noted.
pub goes_noted : (r : Recording) (e g : Full) (xs ys : List Note) (k spare apart : ℕ) (d : Turn) → (let x : Recording = record { full = e; notes = xs; done = k; spare = spare; apart = apart } in x) ≡ r
    → g ≡ full_after d e → ys ≡ xs ++ record { step = k; turn = turn_after d e.body } ∷ [] → FitsFull d r.full → r.full.body.output ≤ (body_after d r.full.body).output
    → (t : Trail) → Follows r t → HasCome g ys k (noting t (weight d r.full.body) 1)
goes_noted r e g xs ys k spare apart d view full notes fits rises = λ t f.
    let come : Follows (with_note r d) (noting t (weight d r.full.body) 1) = come_noted r t d f fits rises in
    let seen : Follows (with_note (record { full = e; notes = xs; done = k; spare = spare; apart = apart }) d) (noting t (weight d r.full.body) 1) =
    subst (λ (x : Recording). Follows (with_note x d) (noting t (weight d r.full.body) 1)) (sym view) come in
    rw (full, notes) seen

-- An editor is extended, and no change is made.
pub come_extended : (e g : Full) (notes : List Note) (steps : ℕ) (t : Trail) → Extends e g → HasCome e notes steps t → HasCome g notes steps t
come_extended e g notes steps t x f =
    let b : Body = e.body in
    let more = x.room in
    let extended : HasCome (record { body = e.body; stored = g.stored; room = g.room }) notes steps t = record {
      turns = record {
        floor = let n = f.turns.floor in omega arith;
        sound = sound_within g.room (length e.stored) (length g.stored) b x.top (sound_more e.room g.room (length e.stored) (length e.stored) b more (omega arith) f.turns.sound);
        fits = FitsBack-more e.room g.room notes b more f.turns.fits;
        marked = f.turns.marked;
      };
      leads = record {
        done = f.leads.done;
        states = λ i h.
            let past : Body = body_back (since i notes) b in
            let within : past.output ≤ b.output = shown_back_all e.room (since i notes) b (FitsBack-since e.room i notes b f.turns.fits) in
            state_at-same e.stored g.stored b.output past within x.stored ∙ f.leads.states i h;
      };
      within = record {
        loads = f.within.loads;
        load = f.within.load;
        each = f.within.each;
        present = f.within.present;
        count = f.within.count;
      };
    } in
    subst (λ (y : Body). HasCome (record { body = y; stored = g.stored; room = g.room }) notes steps t) (sym x.body) extended

pub keeps_extended : (r : Recording) (e g : Full) (xs : List Note) (k spare apart : ℕ) → (let x : Recording = record { full = e; notes = xs; done = k; spare = spare; apart = apart } in x) ≡ r
    → Extends e g → (t : Trail) → Follows r t → HasCome g xs k t
keeps_extended r e g xs k spare apart view x = λ t f. come_extended e g xs k t x (subst (λ (y : Recording). Follows y t) (sym view) f)

pub keeps_then : (r s u : Recording) → StillFollows r s → StillFollows s u → StillFollows r u
keeps_then r s u h k = λ t f. k t (h t f)

-- load and changes are bounds
come_within : (r : Recording) (t : Trail) (load changes : ℕ) → t.load ≤ load → t.changes ≤ changes → Follows r t
    → Follows r (record { states = t.states; loads = t.loads; steps = t.steps; load = load; changes = changes; floor = t.floor })
come_within r t load changes l m f = record {
  turns = record { floor = f.turns.floor; sound = f.turns.sound; fits = f.turns.fits; marked = f.turns.marked };
  leads = record { done = f.leads.done; states = f.leads.states };
  within = record {
    loads = f.within.loads;
    load = let x = f.within.load in omega arith;
    each = f.within.each;
    present = let x = f.within.present in omega arith;
    count = let x = f.within.count in omega arith;
  };
}

pub goes_more : (r s : Recording) (l m c d : ℕ) → l ≤ m → c ≤ d → FollowsAfterChanges l c r s → FollowsAfterChanges m d r s
goes_more r s l m c d few less g = λ t f. come_within s (noting t l c) (t.load + m) (t.changes + d) (omega arith) (omega arith) (g t f)

-- one after another
pub goes_then : (r s u : Recording) (l m c d : ℕ) → FollowsAfterChanges l c r s → FollowsAfterChanges m d s u → FollowsAfterChanges (l + m) (c + d) r u
goes_then r s u l m c d g h = λ t f.
    come_within u (noting (noting t l c) m d) (t.load + (l + m)) (t.changes + (c + d)) (omega arith) (omega arith) (h (noting t l c) (g t f))

-- A call finds memory, which keeps, and then makes at most so many changes as a call may.
pub goes_call : (r s u : Recording) (l c n : ℕ) → StillFollows r s → FollowsAfterChanges l c s u → l ≤ n → c ≤ most_changes → (t : Trail) → Follows r t → Follows u (moved t n)
goes_call r s u l c n k g less few = λ t f. come_within u (noting t l c) (t.load + n) (t.changes + most_changes) (omega arith) (omega arith) (g t (k t f))

-- A call finds memory, which keeps, and then makes one change, which has the load of the call.
pub goes_once : (r s u : Recording) (l n : ℕ) → StillFollows r s → FollowsAfterChanges l 1 s u → l ≡ n → (t : Trail) → Follows r t → Follows u (moved t n)
goes_once r s u l n k g same = goes_call r s u l 1 n k g (omega arith) (omega arith)

-- a step is done
pub come_stepped : (r : Recording) (t : Trail) → Follows r t → t.changes ≤ most_changes → t.states (t.steps + 1) ≡ state_of r.full → t.load ≤ t.loads (t.steps + 1)
    → HasCome r.full r.notes (t.steps + 1) (stepped t)
come_stepped r t f few state load =
    let none : since (t.steps + 1) r.notes ≡ [] = since_all 0 t.steps r.notes f.turns.marked in
    let all : before (t.steps + 1) r.notes ≡ r.notes = before_all 0 t.steps r.notes f.turns.marked in
    let split : (i : ℕ) → i ≤ t.steps + 1 → (i ≤ t.steps) ⊎ (i ≡ t.steps + 1) = λ i h. elim (cases_lt i (t.steps + 1)) [ inl l ↦ inl (omega arith) | inr g ↦ inr (omega arith) ] in
    record {
      turns = record {
        floor = f.turns.floor;
        sound = f.turns.sound;
        fits = f.turns.fits;
        marked = AreMarked-more 0 t.steps r.notes f.turns.marked;
      };
      leads = record {
        done = refl;
        states = λ i h. elim (split i h) [
          | inl l ↦ f.leads.states i l
          | inr e ↦ subst (λ (k : ℕ). state_at r.full.stored (body_back (since k r.notes) r.full.body) ≡ t.states k) (sym e)
              (ap (λ (xs : List Note). state_at r.full.stored (body_back xs r.full.body)) none ∙ sym state)
        ];
      };
      within = record {
        loads = λ i h. elim (split i h) [
          | inl l ↦ f.within.loads i l
          | inr e ↦ subst (λ (k : ℕ). load_back (before k r.notes) (body_back (since k r.notes) r.full.body) ≤ t.loads k) (sym e)
              (let w : load_back (before (t.steps + 1) r.notes) (body_back (since (t.steps + 1) r.notes) r.full.body) ≡ load_back r.notes r.full.body =
              ap (λ (xs : List Note). load_back xs (body_back (since (t.steps + 1) r.notes) r.full.body)) all ∙ ap (λ (xs : List Note). load_back r.notes (body_back xs r.full.body)) none in
              let l = f.within.load in omega arith)
        ];
        load = f.within.load;
        each = λ i h. elim (cases_lt i t.steps) [
          | inl l ↦ f.within.each i l
          | inr g ↦
              let here : i ≡ t.steps = omega arith in
              let these : of_step t.steps r.notes ≡ since t.steps r.notes = before_all 0 t.steps (since t.steps r.notes) (AreMarked-since 0 t.steps t.steps r.notes f.turns.marked) in
              subst (λ (k : ℕ). length (of_step k r.notes) ≤ most_changes) (sym here)
              (let n : length (of_step t.steps r.notes) ≡ length (since t.steps r.notes) = ap length these in let m = f.within.present in omega arith)
        ];
        present = let n : length (since (t.steps + 1) r.notes) ≡ 0 = ap length none in omega arith;
        count = let m = f.within.count in omega arith;
      };
    }
