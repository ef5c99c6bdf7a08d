-- Lines of texts, and what is said of them.
use Rattle.std.proofs.Common.{◌≡◌, ℕ, zero, suc, ◌+◌, ◌<◌, ◌≤◌, true, false, List, [], ◌∷◌, ◌++◌, length, get_or, take, drop, refl, sym, ap, arith, add-one, drop-cons, append_assoc}
use Rattle.std.specs.Prelude.{◌==◌, if◌then◌else◌}
use Rattle.std.specs.Str.{bytes_eq}
use Rattle.tecol_driver.specs.Diffs.{first_len, hunk_if, hunks, lines_of, longer}
use Prim.Native.Char.{code}

-- ---- what is at a place, as the front of the bytes from there

pub front : (xs : List ℕ) (at : ℕ) → at < length xs → drop at xs ≡ get_or xs at 0 ∷ drop (at + 1) xs
front xs at h = rw (add-one, drop-cons xs at 0)

pub no_front : (xs : List ℕ) (at : ℕ) → length xs ≤ at → drop at xs ≡ []
no_front [] zero h = refl
no_front [] (suc at) h = refl
no_front (x ∷ xs) zero h = absurd (omega arith)
no_front (x ∷ xs) (suc at) h = no_front xs at (omega arith)

-- ---- the first line

longer_first : (b : ℕ) (bs : List ℕ) → (0 < length bs → lines_of bs ≡ take (first_len bs) bs ∷ lines_of (drop (first_len bs) bs))
    → longer b (lines_of bs) ≡ (b ∷ take (first_len bs) bs) ∷ lines_of (drop (first_len bs) bs)
unfolding lines_of first_len
longer_first b [] later = refl
longer_first b (c ∷ cs) later = ap (longer b) (later (omega arith))

lines_first : (bs : List ℕ) → 0 < length bs → lines_of bs ≡ take (first_len bs) bs ∷ lines_of (drop (first_len bs) bs)
unfolding lines_of first_len
lines_first [] h = absurd (omega arith)
lines_first (b ∷ bs) h =
    elim (b == code "\n")
    as (λ v. (if v then (b ∷ []) ∷ lines_of bs else longer b (lines_of bs)) ≡ take (if v then 1 else suc (first_len bs)) (b ∷ bs) ∷ lines_of (drop (if v then 1 else suc (first_len bs)) (b ∷ bs)))
    [ true ↦ refl | false ↦ longer_first b bs (lines_first bs) ]

-- ---- what is said of lines

hunks_first : (number : ℕ) (old new : List ℕ) → 0 < length old → 0 < length new
    → hunks number (lines_of old) (lines_of new) ≡ hunk_if (bytes_eq (take (first_len old) old) (take (first_len new) new)) number (take (first_len old) old) (take (first_len new) new)
    ++ hunks (suc number) (lines_of (drop (first_len old) old)) (lines_of (drop (first_len new) new))
unfolding hunks
hunks_first number old new o n = rw (lines_first old o, lines_first new n) refl

-- one line more is told
pub one_more : (all out said : List ℕ) (number old_len new_len : ℕ) (old new old_line new_line old_after new_after : List ℕ) → 0 < old_len → old_len ≤ length old → 0 < new_len → new_len ≤ length new
    → old_len ≡ first_len old → new_len ≡ first_len new → old_line ≡ take old_len old → new_line ≡ take new_len new → old_after ≡ drop old_len old → new_after ≡ drop new_len new
    → all ≡ out ++ hunks number (lines_of old) (lines_of new) → said ≡ out ++ hunk_if (bytes_eq old_line new_line) number old_line new_line
    → all ≡ said ++ hunks (number + 1) (lines_of old_after) (lines_of new_after)
one_more all out said number old_len new_len old new old_line new_line old_after new_after o oi n ni ol nl oe ne oa na so_far is =
    rw (so_far, is, oe, ne, oa, na, ol, nl, hunks_first number old new (omega arith) (omega arith), add-one) (sym (append_assoc out _ _))

-- where no line is left in one of the texts, nothing more is told
pub none_old : (number : ℕ) (old new : List ℕ) → length old ≡ 0 → hunks number (lines_of old) (lines_of new) ≡ []
unfolding hunks lines_of
none_old number [] new h = refl
none_old number (b ∷ bs) new h = absurd (omega (arith, h))

none_lines : (number : ℕ) (olds : List (List ℕ)) → hunks number olds [] ≡ []
unfolding hunks
none_lines number [] = refl
none_lines number (old ∷ olds) = refl

pub none_new : (number : ℕ) (old new : List ℕ) → length new ≡ 0 → hunks number (lines_of old) (lines_of new) ≡ []
unfolding lines_of
none_new number old [] h = none_lines number (lines_of old)
none_new number old (b ∷ bs) h = absurd (omega (arith, h))
