-- A splice of one byte.
use Rattle.std.proofs.Common.{Bool, true, false, ◌==◌, ◌≡◌, ℕ, ◌+◌, ◌<◌, ◌≤◌, cond, List, [], ◌∷◌, length, take, drop, get_or, refl, ap, arith}
use Rattle.std.proofs.lemmas.Bool.{ne_eqb}
use Rattle.std.proofs.lemmas.List.{drop_more}
use Rattle.teco_undo.specs.Holding.{held_apart}

-- the byte that goes
pub taken_byte : (xs : List ℕ) (at : ℕ) → at + 1 ≤ length xs → take 1 (drop at xs) ≡ get_or xs at 0 ∷ []
taken_byte xs at within = ap (take 1) (drop_more xs at 0 (omega arith))

-- A text of one byte, and one of none.
pub one_byte : (xs : List ℕ) (d : ℕ) → length xs ≡ 1 → xs ≡ get_or xs 0 d ∷ []
one_byte [] d e = absurd (omega arith)
one_byte (x ∷ []) d e = refl
one_byte (x ∷ y ∷ xs) d e = absurd (omega arith)

pub no_byte : (xs : List ℕ) → length xs ≡ 0 → xs ≡ []
no_byte [] e = refl
no_byte (x ∷ xs) e = absurd (omega arith)

at_most : (b : Bool) → cond b 0 1 ≤ 1
at_most true = omega arith
at_most false = omega arith

-- More bytes than one are held apart.
pub many_apart : (n : ℕ) → 1 < n → held_apart n ≡ 1
many_apart n h = ap (λ b. cond b 0 1) (ne_eqb n 1 (λ e. absurd (omega arith)))

-- At most one change is.
pub one_apart : (n : ℕ) → held_apart n ≤ 1
one_apart n = at_most (n == 1)
