-- Commands, cut at pairs of ESC.
use Rattle.std.proofs.Common.{◌≡◌, ℕ, ◌+◌, ◌-◌, ◌≤◌, Bool, true, false, ◌||◌, List, [], ◌∷◌, ◌++◌, length, take, drop, refl, sym, ap, subst, ◌∙◌, arith, length-drop}
use Rattle.std.specs.List.{list_any}
use Rattle.std.proofs.lemmas.List.{drop-drop, take_all, take_rest}
use Rattle.teco_scan.specs.Stream.{rest_of, texts_of}
use Rattle.teco_scan.proofs.Streams.{EndsAt, rest_of-all, rest_of-cut, texts_of-cut}
use Rattle.teco_lint.specs.Strings.{strings_of}

-- a pair ends a string
one_cut : (bs : List ℕ) (at : ℕ) → EndsAt at bs → strings_of bs ≡ take at bs ∷ strings_of (drop (at + 1) bs)
one_cut bs at e = ap (λ (texts : List (List ℕ)). texts ++ rest_of bs ∷ []) (texts_of-cut bs at e.0 e.1 e.2)
    ∙ ap (λ (rest : List ℕ). take at bs ∷ (texts_of (drop (at + 1) bs) ++ rest ∷ [])) (rest_of-cut bs at e.0 e.1 e.2)

-- the same of commands from a place on
pub one_cut-from : (xs : List ℕ) (from at : ℕ) → EndsAt at (take (length xs - from) (drop from xs))
    → strings_of (drop from xs) ≡ take (from + at - from) (drop from xs) ∷ strings_of (drop (from + at + 1) xs)
one_cut-from xs from at e =
    let found : EndsAt at (drop from xs) = subst (EndsAt at) (take_rest xs from) e in
    let n : at ≡ from + at - from = omega arith in
    let place : from + (at + 1) ≡ from + at + 1 = omega arith in
    let later : drop (at + 1) (drop from xs) ≡ drop (from + at + 1) xs = drop-drop (at + 1) from xs ∙ ap (λ (k : ℕ). drop k xs) place in
    one_cut (drop from xs) at found ∙ ap (λ (k : ℕ). take k (drop from xs) ∷ strings_of (drop (at + 1) (drop from xs))) n
    ∙ ap (λ (rest : List ℕ). take (from + at - from) (drop from xs) ∷ strings_of rest) later

-- where no pair comes, all is one string
pub none_cut-from : (xs : List ℕ) (from : ℕ) → texts_of (take (length xs - from) (drop from xs)) ≡ [] → strings_of (drop from xs) ≡ drop from xs ∷ []
none_cut-from xs from e =
    let none : texts_of (drop from xs) ≡ [] = sym (ap texts_of (take_rest xs from)) ∙ e in
    ap (λ (texts : List (List ℕ)). texts ++ rest_of (drop from xs) ∷ []) none ∙ ap (λ (rest : List ℕ). rest ∷ []) (rest_of-all (drop from xs) none)

pub whole_held : (from i : ℕ) (xs : List ℕ) → length xs ≤ i → take (i - from) (drop from xs) ≡ drop from xs
whole_held from i xs h =
    let d : length (drop from xs) ≡ length xs - from = length-drop from xs in
    let l : length (drop from xs) ≤ i - from = omega arith in
    take_all (i - from) (drop from xs) l

or_false : (b : Bool) → (b || false) ≡ b
or_false true = refl
or_false false = refl

-- one string more is known
pub one_more : (P : List ℕ → Bool) (so_far found : Bool) (string : List ℕ) (rest all : List (List ℕ)) → all ≡ string ∷ rest → found ≡ P string
    → (so_far || list_any P all) ≡ ((so_far || found) || list_any P rest)
one_more P true found string rest all e f = refl
one_more P false found string rest all e f = rw (e, f) refl

pub last_one : (P : List ℕ → Bool) (so_far found : Bool) (string : List ℕ) (all : List (List ℕ)) → all ≡ string ∷ [] → found ≡ P string
    → (so_far || list_any P all) ≡ (so_far || found)
last_one P true found string all e f = refl
last_one P false found string all e f = rw (e, f) (or_false (P string))
