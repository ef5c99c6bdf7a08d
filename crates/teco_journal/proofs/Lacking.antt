-- Bytes that lack one byte, such as a line that lacks the line feed.
use Rattle.std.proofs.Common.{◌≡◌, ℕ, zero, suc, Bool, true, false, List, [], ◌∷◌, ◌++◌, take, get_or, refl, sym, ap, ◌∙◌, eqb, eq-eqb, not}
use Rattle.std.specs.List.{list_all}
use Rattle.std.proofs.lemmas.List.Folds.{list_all-append}
use Rattle.std.proofs.lemmas.Bool.{and_from, and_parts}

abbrev pub lacks : ℕ → List ℕ → Bool
lacks c bs = list_all (λ b. not (eqb b c)) bs

not_true : (t : Bool) → not t ≡ true → t ≡ false
not_true true h = absurd (cc)
not_true false h = refl

pub first_lacks : (c b : ℕ) (bs : List ℕ) → lacks c (b ∷ bs) ≡ true → eqb b c ≡ false
first_lacks c b bs h = not_true (eqb b c) (and_parts (not (eqb b c)) (lacks c bs) h).0

pub rest_lacks : (c b : ℕ) (bs : List ℕ) → lacks c (b ∷ bs) ≡ true → lacks c bs ≡ true
rest_lacks c b bs h = (and_parts (not (eqb b c)) (lacks c bs) h).1

pub both_lack : (c : ℕ) (xs ys : List ℕ) → lacks c xs ≡ true → lacks c ys ≡ true → lacks c (xs ++ ys) ≡ true
both_lack c xs ys p q = list_all-append (λ b. not (eqb b c)) xs ys ∙ and_from (lacks c xs) (lacks c ys) p q

pub more_lacks : (c b : ℕ) (bs : List ℕ) → eqb b c ≡ false → lacks c bs ≡ true → lacks c (b ∷ bs) ≡ true
more_lacks c b bs p q = and_from (not (eqb b c)) (lacks c bs) (ap not p) q

pub front_lacks : (c n : ℕ) (bs : List ℕ) → lacks c bs ≡ true → lacks c (take n bs) ≡ true
front_lacks c zero bs h = refl
front_lacks c (suc n) [] h = refl
front_lacks c (suc n) (b ∷ bs) h = more_lacks c b (take n bs) (first_lacks c b bs h) (front_lacks c n bs (rest_lacks c b bs h))

pub same_byte : (b : ℕ) → eqb b b ≡ true
same_byte b = eq-eqb b b refl

pub other_byte : (b c : ℕ) → eqb b c ≡ false → b ≡ c → ⊥
other_byte b c ne is = (let same : eqb b c ≡ true = ap (eqb b) (sym is) ∙ same_byte b in cc)

-- Up to the first such byte both are the same, and so they are after it.
pub first_part : (c : ℕ) (xs ys us bs : List ℕ) → lacks c xs ≡ true → lacks c ys ≡ true → xs ++ c ∷ us ≡ ys ++ c ∷ bs → (xs ≡ ys) × (us ≡ bs)
first_part c [] [] us bs p q e = (refl, cc)
first_part c [] (y ∷ ys) us bs p q e = absurd (other_byte y c (first_lacks c y ys q) (cc))
first_part c (x ∷ xs) [] us bs p q e = absurd (other_byte x c (first_lacks c x xs p) (cc))
first_part c (x ∷ xs) (y ∷ ys) us bs p q e =
    let tails = first_part c xs ys us bs (rest_lacks c x xs p) (rest_lacks c y ys q) (cc) in
    let heads : x ≡ y = cc in
    (ap (λ z. z ∷ xs) heads ∙ ap (λ zs. y ∷ zs) tails.0, tails.1)

-- Bytes that lack it don't have it.
pub never : (c : ℕ) (xs ys us : List ℕ) → lacks c xs ≡ true → xs ≡ ys ++ c ∷ us → ⊥
never c [] [] us h e = cc
never c [] (y ∷ ys) us h e = cc
never c (x ∷ xs) [] us h e = other_byte x c (first_lacks c x xs h) (cc)
never c (x ∷ xs) (y ∷ ys) us h e = never c xs ys us (rest_lacks c x xs h) (cc)

-- A byte that is read from a table that lacks another isn't that.
pub read_lacks : (c i : ℕ) (bs : List ℕ) → eqb 0 c ≡ false → lacks c bs ≡ true → eqb (get_or bs i 0) c ≡ false
read_lacks c i [] none h = none
read_lacks c zero (b ∷ bs) none h = first_lacks c b bs h
read_lacks c (suc i) (b ∷ bs) none h = read_lacks c i bs none (rest_lacks c b bs h)
