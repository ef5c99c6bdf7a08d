-- Digits in a base, the last one first.
use Rattle.std.proofs.Common.{◌≡◌, ap, refl, ℕ, zero, suc, ◌-◌, ◌/◌, ◌%◌, ◌<◌, true, List, [], ◌∷◌, arith, ℤ, pos, negsuc, w32, of_z}
use Rattle.std.proofs.lemmas.Bool.{ne_eqb}
use Rattle.std.specs.Fmt.{digit_glyph, digits, digits_onto}
use Rattle.teco_core.specs.Number.{to_word}

pub onto_nothing : (base n : ℕ) → digits_onto 64 base true n [] ≡ digits base true n
unfolding digits
onto_nothing base n = refl

-- the last digit, where others come before it
pub next : (k base n : ℕ) (acc : List ℕ) → 0 < k → (n / base ≡ 0 → ⊥) → digits_onto k base true n acc ≡ digits_onto (k - 1) base true (n / base) (digit_glyph true (n % base) ∷ acc)
next zero base n acc some is = absurd (omega arith)
next (suc k) base n acc some is =
    let before : k ≡ suc k - 1 = omega arith in
    rw (ne_eqb (n / base) 0 is) (ap (λ j. digits_onto j base true (n / base) (digit_glyph true (n % base) ∷ acc)) before)

-- the 32 bits of a number
pub same_word : (n : ℤ) → of_z w32 n ≡ to_word n
same_word (pos n) = refl
same_word (negsuc n) = omega arith
