-- What words make as they are joined.
use Rattle.std.proofs.Common.{◌≡◌, ◌∙◌, ◌++◌, ◌<◌, ◌≤◌, ℕ, zero, suc, Bool, true, false, true≢false, refl, sym, ap, arith, List, [], ◌∷◌, length, codes, map, take, drop, get_or, set, String, Global, if◌then◌else◌}
use Rattle.std.specs.List.{list_any}
use Rattle.std.specs.Prelude.{◌||◌, remove}
use Rattle.std.specs.Str.{bytes_eq}
use Rattle.std.specs.String.{string_bytes}
use Rattle.clap.specs.Words.{Text}
use Rattle.teco_cli.specs.Joining.{is_joined, joined, joined_after, with_value}

abbrev texts : List (String Global) → List Text
texts words = map string_bytes words

-- the first of three
taken_first : (a b : Bool) (p q r : List Text) → a ≡ true → (if a then p else if b then q else r) ≡ p
taken_first true b p q r e = refl
taken_first false b p q r e = absurd (true≢false (sym e))

taken_second : (a b : Bool) (p q r : List Text) → a ≡ false → b ≡ true → (if a then p else if b then q else r) ≡ q
taken_second false true p q r e h = refl
taken_second false false p q r e h = absurd (true≢false (sym h))
taken_second true b p q r e h = absurd (true≢false e)

taken_third : (a b : Bool) (p q r : List Text) → a ≡ false → b ≡ false → (if a then p else if b then q else r) ≡ r
taken_third false false p q r e h = refl
taken_third false true p q r e h = absurd (true≢false h)
taken_third true b p q r e h = absurd (true≢false e)

abbrev asks : String Global → String Global → Bool
asks w v = is_joined (string_bytes w) (string_bytes v)

abbrev is_end : String Global → Bool
is_end w = bytes_eq (string_bytes w) (codes "--")

-- the words, joined from this place on
abbrev pub from : ℕ → List (String Global) → List Text
from at xs = texts (take at xs) ++ joined_after (texts (drop at xs))

-- after the program's name
pub from_name : (xs : List (String Global)) → from 1 xs ≡ joined (texts xs)
unfolding joined_after
from_name [] = refl
from_name (x ∷ xs) = refl

-- an option and its value make one word
pub joins : (at : ℕ) (xs : List (String Global)) (one w v : String Global) → suc at < length xs → w ≡ get_or xs at w → v ≡ get_or xs (suc at) v → is_end w ≡ false → asks w v ≡ true
    → string_bytes one ≡ with_value (string_bytes w) (string_bytes v) → from (suc at) (set (remove xs (suc at)) at one) ≡ from at xs
unfolding joined_after
joins at [] one w v lt at_w at_v apart asked is = absurd (omega (arith, lt))
joins at (x ∷ []) one w v lt at_w at_v apart asked is = absurd (omega (arith, lt))
joins zero (x ∷ y ∷ xs) one w v lt at_w at_v apart asked is =
    let no_x : is_end x ≡ false = ap is_end (sym at_w) ∙ apart in
    let yes_x : asks x y ≡ true = ap (λ s. asks s y) (sym at_w) ∙ (ap (asks w) (sym at_v) ∙ asked) in
    let is_x : string_bytes one ≡ with_value (string_bytes x) (string_bytes y) =
    is ∙ (ap (λ s. with_value (string_bytes s) (string_bytes v)) at_w ∙ ap (λ s. with_value (string_bytes x) (string_bytes s)) at_v) in
    ap (λ s. s ∷ joined_after (texts xs)) is_x
    ∙ sym (taken_second (is_end x) (asks x y) (texts (x ∷ y ∷ xs)) (with_value (string_bytes x) (string_bytes y) ∷ joined_after (texts xs)) (string_bytes x ∷ joined_after (texts (y ∷ xs))) no_x yes_x)
joins (suc at) (x ∷ y ∷ xs) one w v lt at_w at_v apart asked is =
    ap (λ t. string_bytes x ∷ t) (joins at (y ∷ xs) one w v (omega (arith, lt)) at_w at_v apart asked is)

-- and any other word stays
pub stays : (at : ℕ) (xs : List (String Global)) (w v : String Global) → suc at < length xs → w ≡ get_or xs at w → v ≡ get_or xs (suc at) v → is_end w ≡ false → asks w v ≡ false
    → from (suc at) xs ≡ from at xs
unfolding joined_after
stays at [] w v lt at_w at_v apart asked = absurd (omega (arith, lt))
stays at (x ∷ []) w v lt at_w at_v apart asked = absurd (omega (arith, lt))
stays zero (x ∷ y ∷ xs) w v lt at_w at_v apart asked =
    let no_x : is_end x ≡ false = ap is_end (sym at_w) ∙ apart in
    let no_y : asks x y ≡ false = ap (λ s. asks s y) (sym at_w) ∙ (ap (asks w) (sym at_v) ∙ asked) in
    sym (taken_third (is_end x) (asks x y) (texts (x ∷ y ∷ xs)) (with_value (string_bytes x) (string_bytes y) ∷ joined_after (texts xs)) (string_bytes x ∷ joined_after (texts (y ∷ xs))) no_x no_y)
stays (suc at) (x ∷ y ∷ xs) w v lt at_w at_v apart asked =
    ap (λ t. string_bytes x ∷ t) (stays at (y ∷ xs) w v (omega (arith, lt)) at_w at_v apart asked)

-- a word alone, and what -- begins, stay too
pub few_stay : (at : ℕ) (xs : List (String Global)) → length xs ≤ suc at → from at xs ≡ texts xs
unfolding joined_after
few_stay zero [] lt = refl
few_stay zero (x ∷ []) lt = refl
few_stay zero (x ∷ y ∷ xs) lt = absurd (omega (arith, lt))
few_stay (suc at) [] lt = refl
few_stay (suc at) (x ∷ xs) lt = ap (λ t. string_bytes x ∷ t) (few_stay at xs (omega (arith, lt)))

pub rest_stays : (at : ℕ) (xs : List (String Global)) (w : String Global) → suc at < length xs → w ≡ get_or xs at w → is_end w ≡ true → from at xs ≡ texts xs
unfolding joined_after
rest_stays at [] w lt at_w end = absurd (omega (arith, lt))
rest_stays at (x ∷ []) w lt at_w end = absurd (omega (arith, lt))
rest_stays zero (x ∷ y ∷ xs) w lt at_w end =
    taken_first (is_end x) (asks x y) (texts (x ∷ y ∷ xs)) (with_value (string_bytes x) (string_bytes y) ∷ joined_after (texts xs))
    (string_bytes x ∷ joined_after (texts (y ∷ xs))) (ap is_end (sym at_w) ∙ end)
rest_stays (suc at) (x ∷ y ∷ xs) w lt at_w end = ap (λ t. string_bytes x ∷ t) (rest_stays at (y ∷ xs) w (omega (arith, lt)) at_w end)

-- what holds of none of the last does not hold of all of them for that
pub any_front : {X : Type 0} (p : X → Bool) (xs ys : List X) → list_any p ys ≡ false → list_any p (xs ++ ys) ≡ list_any p xs
any_front p [] ys h = h
any_front p (x ∷ xs) ys h = ap (λ b. p x || b) (any_front p xs ys h)
