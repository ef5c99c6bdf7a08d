-- Entries that are cut after so many steps.
use Rattle.std.proofs.Common.{◌≡◌, ℕ, zero, suc, ◌+◌, ◌*◌, ◌<◌, ◌≤◌, List, [], ◌∷◌, ◌++◌, inl, inr, length, take, drop, get_or, refl, sym, ◌∙◌, ap, subst, arith, length-append}
use Rattle.std.proofs.lemmas.Bool.{cases_lt}
use Rattle.std.proofs.lemmas.List.{drop_more}
use Rattle.teco_store.specs.State.{Body, state_at}
use Rattle.teco_store.specs.Trail.{most_changes}
use Rattle.teco_store.specs.Turn.{Note, Fits}
use Rattle.teco_undo.specs.Entry.{body_back, FitsBack, before, since, of_step, load_back}
use Rattle.teco_undo.specs.Follows.{AreMarked}
use Rattle.teco_undo.specs.RecordLaws.{ComesSoFarCut}
use Rattle.teco_undo.proofs.Entries.{sound_back_all}
use Rattle.teco_undo.proofs.Recordings.{body_back-append, since_low, since_high, before_low, before_high, FitsBack-since}

-- a place that has the changes of the first `n` steps before it, and all others after it
pub record IsCut (n i : ℕ) (xs : List Note) : Type 0 where
  pub before : before n xs ≡ take i xs
  pub since : since n xs ≡ drop i xs

first_late : (n : ℕ) (xs : List Note) → before n xs ≡ [] → since n xs ≡ xs
first_late n [] e = refl
first_late n (x ∷ xs) e = elim (cases_lt x.step n) [
  | inl l ↦ (let m : length (x ∷ before n xs) ≡ 0 = ap length (sym (before_low n x xs l) ∙ e) in absurd (omega arith))
  | inr g ↦ since_high n x xs g
]

-- what is marked is no earlier than the first mark
not_before : (low high : ℕ) (xs : List Note) (k : ℕ) (d : Note) → AreMarked low high xs → k < length xs → low ≤ (get_or xs k d).step
not_before low high [] k d h lt = absurd (omega arith)
not_before low high (x ∷ xs) zero d h lt = h.0.0
not_before low high (x ∷ xs) (suc k) d h lt = let a = h.0.0 in let b = not_before x.step high xs k d h.1 (omega arith) in omega arith

head_early : (n : ℕ) (x : Note) (high : ℕ) (xs : List Note) (i : ℕ) (d : Note) → AreMarked x.step high xs → i ≤ length xs → (get_or (x ∷ xs) i d).step < n → x.step < n
head_early n x high xs zero d h le last = last
head_early n x high xs (suc i) d h le last = let a = not_before x.step high xs i d h (omega arith) in omega arith

-- A place is the cut where the change before it was made in the first `n` steps, and the one after it was not.
pub cut_at : (n low high i : ℕ) (xs : List Note) (d : Note) → AreMarked low high xs → i ≤ length xs → ((k : ℕ) → i ≡ suc k → (get_or xs k d).step < n) → before n (drop i xs) ≡ [] → IsCut n i xs
cut_at n low high zero xs d h le last later = record { before = later; since = first_late n xs later }
cut_at n low high (suc i) [] d h le last later = absurd (omega arith)
cut_at n low high (suc i) (x ∷ xs) d h le last later =
    let early : x.step < n = head_early n x high xs i d h.1 (omega arith) (last i refl) in
    let rest = cut_at n x.step high i xs d h.1 (omega arith) (λ k e. subst (λ (j : ℕ). (get_or (x ∷ xs) j d).step < n) e (last i refl)) later in
    record {
      before = before_low n x xs early ∙ ap (λ ys. x ∷ ys) rest.before;
      since = since_low n x xs early ∙ rest.since;
    }

-- from a change on that was not made in the first `n` steps
pub late_at : (n : ℕ) (xs : List Note) (x : Note) (i : ℕ) → i < length xs → x ≡ get_or xs i x → n ≤ x.step → before n (drop i xs) ≡ []
late_at n xs x i lt is le = ap (before n) (drop_more xs i x lt ∙ ap (λ y. y ∷ drop (i + 1) xs) (sym is)) ∙ before_high n x (drop (i + 1) xs) le

-- the changes of the first `n` steps, and all others
pub cut_here : (n : ℕ) (xs : List Note) → before n xs ++ since n xs ≡ xs
cut_here n [] = refl
cut_here n (x ∷ xs) = elim (cases_lt x.step n) [
  | inl l ↦ ap (λ ys. ys ++ since n (x ∷ xs)) (before_low n x xs l) ∙ ap (λ ys. x ∷ (before n xs ++ ys)) (since_low n x xs l) ∙ ap (λ ys. x ∷ ys) (cut_here n xs)
  | inr g ↦ ap (λ ys. ys ++ since n (x ∷ xs)) (before_high n x xs g) ∙ since_high n x xs g
]

FitsBack-front : (capacity : ℕ) (xs ys : List Note) (b : Body) → FitsBack capacity (xs ++ ys) b → FitsBack capacity xs (body_back ys b)
FitsBack-front capacity [] ys b f = tt
FitsBack-front capacity (x ∷ xs) ys b f = (FitsBack-front capacity xs ys b f.0, subst (λ (z : Body). Fits capacity z.output x.turn z) (body_back-append xs ys b) f.1)

since_before : (i n : ℕ) (xs : List Note) → i ≤ n → since i xs ≡ since i (before n xs) ++ since n xs
since_before i n [] h = refl
since_before i n (x ∷ xs) h = elim (cases_lt x.step i) [
  | inl l ↦ (let m : x.step < n = omega arith in
      since_low i x xs l ∙ since_before i n xs h
      ∙ sym (ap (λ ys. since i ys ++ since n (x ∷ xs)) (before_low n x xs m) ∙ ap (λ ys. ys ++ since n (x ∷ xs)) (since_low i x (before n xs) l) ∙ ap (λ ys. since i (before n xs) ++ ys) (since_low n x xs m)))
  | inr g ↦ elim (cases_lt x.step n) [
    | inl m ↦ since_high i x xs g ∙ sym (ap (λ ys. x ∷ ys) (cut_here n xs))
        ∙ sym (ap (λ ys. since i ys ++ since n (x ∷ xs)) (before_low n x xs m) ∙ ap (λ ys. ys ++ since n (x ∷ xs)) (since_high i x (before n xs) g) ∙ ap (λ ys. (x ∷ before n xs) ++ ys) (since_low n x xs m))
    | inr k ↦ since_high i x xs g ∙ sym (ap (λ ys. since i ys ++ since n (x ∷ xs)) (before_high n x xs k) ∙ since_high n x xs k)
  ]
]

before_before : (i n : ℕ) (xs : List Note) → i ≤ n → before i (before n xs) ≡ before i xs
before_before i n [] h = refl
before_before i n (x ∷ xs) h = elim (cases_lt x.step n) [
  | inl m ↦ elim (cases_lt x.step i) [
    | inl l ↦ ap (before i) (before_low n x xs m) ∙ before_low i x (before n xs) l ∙ ap (λ ys. x ∷ ys) (before_before i n xs h) ∙ sym (before_low i x xs l)
    | inr g ↦ ap (before i) (before_low n x xs m) ∙ before_high i x (before n xs) g ∙ sym (before_high i x xs g)
  ]
  | inr k ↦ (let g : i ≤ x.step = omega arith in ap (before i) (before_high n x xs k) ∙ sym (before_high i x xs g))
]

-- one step more
before_step : (n : ℕ) (xs : List Note) → before (n + 1) xs ≡ before n xs ++ of_step n xs
before_step n [] = refl
before_step n (x ∷ xs) = elim (cases_lt x.step n) [
  | inl l ↦ before_low (n + 1) x xs (omega arith) ∙ ap (λ ys. x ∷ ys) (before_step n xs)
      ∙ sym (ap (λ ys. ys ++ of_step n (x ∷ xs)) (before_low n x xs l) ∙ ap (λ ys. (x ∷ before n xs) ++ before (n + 1) ys) (since_low n x xs l))
  | inr g ↦ sym (ap (λ ys. ys ++ of_step n (x ∷ xs)) (before_high n x xs g) ∙ ap (before (n + 1)) (since_high n x xs g))
]

before_none : (xs : List Note) → before 0 xs ≡ []
before_none [] = refl
before_none (x ∷ xs) = before_high 0 x xs (omega arith)

-- at most so many in each step
few_before : (n : ℕ) (xs : List Note) → ((i : ℕ) → i < n → length (of_step i xs) ≤ most_changes) → length (before n xs) ≤ most_changes * n
few_before zero xs few = let e : length (before 0 xs) ≡ 0 = ap length (before_none xs) in omega arith
few_before (suc n) xs few =
    let less = few_before n xs (λ i h. few i (omega arith)) in
    let here = few n (omega arith) in
    let n1 : suc n ≡ n + 1 = omega arith in
    let e : length (before (suc n) xs) ≡ length (before n xs ++ of_step n xs) = ap (λ (k : ℕ). length (before k xs)) n1 ∙ ap length (before_step n xs) in
    omega (arith, length-append (before n xs) (of_step n xs))

marked_before : (low high n : ℕ) (xs : List Note) → AreMarked low high xs → AreMarked low n (before n xs)
marked_before low high n [] h = tt
marked_before low high n (x ∷ xs) h = elim (cases_lt x.step n) [
  | inl l ↦ subst (AreMarked low n) (sym (before_low n x xs l)) ((h.0.0, omega arith), marked_before x.step high n xs h.1)
  | inr g ↦ subst (AreMarked low n) (sym (before_high n x xs g)) tt
]

-- a step makes as many changes where the entry is cut later
same_step : (i n : ℕ) (xs : List Note) → i < n → length (of_step i (before n xs)) ≡ length (of_step i xs)
same_step i n xs h =
    let cut : length (before (i + 1) (before n xs)) ≡ length (before i (before n xs) ++ of_step i (before n xs)) = ap length (before_step i (before n xs)) in
    let whole : length (before (i + 1) xs) ≡ length (before i xs ++ of_step i xs) = ap length (before_step i xs) in
    let less : length (before i (before n xs)) ≡ length (before i xs) = ap length (before_before i n xs (omega arith)) in
    let more : length (before (i + 1) (before n xs)) ≡ length (before (i + 1) xs) = ap length (before_before (i + 1) n xs (omega arith)) in
    omega (arith, length-append (before i (before n xs)) (of_step i (before n xs)), length-append (before i xs) (of_step i xs))

pub comes_so_far : ComesSoFarCut
comes_so_far n full notes steps t le f =
    let b : Body = full.body in
    let early : List Note = before n notes in
    let late : List Note = since n notes in
    let b1 : Body = body_back late b in
    let first : body_back early b1 ≡ body_back notes b = sym (body_back-append early late b) ∙ ap (λ xs. body_back xs b) (cut_here n notes) in
    let at : (i : ℕ) → i ≤ n → body_back (since i early) b1 ≡ body_back (since i notes) b =
    λ i h. sym (body_back-append (since i early) late b) ∙ ap (λ xs. body_back xs b) (sym (since_before i n notes h)) in
    let none : length (since n early) ≡ 0 =
    let e : length late ≡ length (since n early ++ late) = ap length (since_before n n notes (omega arith)) in omega (arith, length-append (since n early) late) in
    let few : (i : ℕ) → i < n → length (of_step i notes) ≤ most_changes = λ i h. f.within.each i (omega arith) in
    record {
      come = record {
        turns = record {
          floor = f.turns.floor;
          sound = sound_back_all full.room (length full.stored) late b (FitsBack-since full.room n notes b f.turns.fits) f.turns.sound;
          fits = FitsBack-front full.room early late b (subst (λ (xs : List Note). FitsBack full.room xs b) (sym (cut_here n notes)) f.turns.fits);
          marked = marked_before 0 t.steps n notes f.turns.marked;
        };
        leads = record {
          done = refl;
          states = λ i h. ap (state_at full.stored) (at i h) ∙ f.leads.states i (omega arith);
        };
        within = record {
          loads = λ i h.
              let e : load_back (before i early) (body_back (since i early) b1) ≡ load_back (before i notes) (body_back (since i notes) b) =
              ap (λ xs. load_back xs (body_back (since i early) b1)) (before_before i n notes h) ∙ ap (load_back (before i notes)) (at i h) in
              subst (λ (m : ℕ). m ≤ t.loads i) (sym e) (f.within.loads i (omega arith));
          load = f.within.loads n le;
          each = λ i h. let e = same_step i n notes h in let m = few i h in omega arith;
          present = omega arith;
          count = let m = few_before n notes few in omega arith;
        };
      };
      first = first;
    }
