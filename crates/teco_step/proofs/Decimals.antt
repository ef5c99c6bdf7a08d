-- Runs of digits, read byte by byte.
use Rattle.std.proofs.Common.{◌≡◌, ◌∙◌, ap, sym, refl, ℕ, zero, suc, ◌+◌, ◌-◌, ◌*◌, ◌^◌, ◌<◌, ◌≤◌, pos, neg_ℤ, ◌-ℤ◌, nat_abs, nat_le, w64, to_z, of_z, rules, tests, true, false, List, [], ◌∷◌, length, get_or, drop, min, arith, add-one, drop-cons, ⊎_elim}
use Rattle.std.proofs.lemmas.Bool.{cases_lt}
use Rattle.std.proofs.lemmas.Int.{fits_signed_from_abs, to_z-of_z, to_z_pos}
use Rattle.std.proofs.Math.ListN.{drop_of_length-le}
use Rattle.teco_core.specs.Ascii.{is_digit}
use Rattle.teco_core.specs.Number.{digits_value, fitted}
use Rattle.teco_scan.specs.Scan.{begins_run, run_of}
use Rattle.teco_step.specs.declared.decimal.TheConstants.{PAST_NUMBERS}

-- A run of digits begins before the end of the text.
pub begins_inside : (text : List ℕ) (p : ℕ) → begins_run (drop p text) ≡ true → p < length text
begins_inside text p begins =
    ⊎_elim (λ (h : p < length text). h)
    (λ (h : length text ≤ p). let none : begins_run (drop p text) ≡ false = ap begins_run (drop_of_length-le text h) in absurd cc)
    (cases_lt p (length text))

-- its first digit
pub begins_with_digit : (text : List ℕ) (p : ℕ) → p < length text → begins_run (drop p text) ≡ is_digit (get_or text p 0)
begins_with_digit text p below = rw (drop-cons text p 0) refl

pub run_more : (text : List ℕ) (p : ℕ) → begins_run (drop p text) ≡ true → run_of (drop p text) ≡ get_or text p 0 ∷ run_of (drop (p + 1) text)
unfolding run_of
run_more text p begins =
    let below = begins_inside text p begins in
    let digit : is_digit (get_or text p 0) ≡ true = sym (begins_with_digit text p below) ∙ begins in
    rw (add-one, drop-cons text p 0, digit) refl

pub run_ends : (bs : List ℕ) → begins_run bs ≡ false → run_of bs ≡ []
unfolding run_of
run_ends [] ends = refl
run_ends (b ∷ bs) ends = rw ends refl

-- Values past the range are read on to values past it.
pub read_on : (a b : ℕ) (ds : List ℕ) → min PAST_NUMBERS a ≡ min PAST_NUMBERS b → min PAST_NUMBERS (digits_value a ds) ≡ min PAST_NUMBERS (digits_value b ds)
unfolding digits_value
read_on a b [] same = same
read_on a b (d ∷ ds) same = read_on (a * 10 + (d - 48)) (b * 10 + (d - 48)) ds (omega arith)

-- A value past the range is refused like any other.
most_negative : (n : ℕ) → PAST_NUMBERS ≤ n → fitted (neg_ℤ (pos n)) ≡ fitted (neg_ℤ (pos PAST_NUMBERS))
most_negative zero h = absurd (omega arith)
most_negative (suc k) h = let past : nat_le k (2 ^ 31 - 1) ≡ false = search (rules, tests) in rw past refl

fitted_most_negative : (n : ℕ) → fitted (neg_ℤ (pos (min PAST_NUMBERS n))) ≡ fitted (neg_ℤ (pos n))
fitted_most_negative n =
    ⊎_elim
    (λ (h : n < PAST_NUMBERS). let same : min PAST_NUMBERS n ≡ n = omega arith in rw same refl)
    (λ (h : PAST_NUMBERS ≤ n). let most : min PAST_NUMBERS n ≡ PAST_NUMBERS = omega arith in rw most (sym (most_negative n h)))
    (cases_lt n PAST_NUMBERS)

below_zero : (v : ℕ) → pos 0 -ℤ pos v ≡ neg_ℤ (pos v)
below_zero zero = refl
below_zero (suc v) =
    let above : nat_le 1 (suc v) ≡ true = search (rules, tests) in
    let less : suc v - 1 ≡ v = omega arith in
    rw (above, less) refl

size_below_zero : (v : ℕ) → nat_abs (neg_ℤ (pos v)) ≡ v
size_below_zero zero = refl
size_below_zero (suc v) = refl

-- the negative of a value, as it is made
pub negative_value : (v n : ℕ) → v ≡ min PAST_NUMBERS n → fitted (to_z w64 (of_z w64 (pos 0 -ℤ to_z w64 v))) ≡ fitted (neg_ℤ (pos n))
negative_value v n is =
    let small : v < 2 ^ 63 = omega arith in
    let size : nat_abs (neg_ℤ (pos v)) < 2 ^ 63 = omega (arith, size_below_zero v) in
    rw (to_z_pos w64 v small, below_zero v, to_z-of_z w64 (neg_ℤ (pos v)) (fits_signed_from_abs w64 (neg_ℤ (pos v)) size), is) (fitted_most_negative n)
