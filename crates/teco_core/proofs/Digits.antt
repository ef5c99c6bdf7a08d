-- The value of digits, read one after another.
use Rattle.std.proofs.Common.{◌≡◌, ◌∙◌, ℕ, ◌+◌, ◌-◌, ◌*◌, ◌^◌, ◌<◌, ◌≤◌, List, [], ◌∷◌, ◌++◌, length, take, drop, get_or, Ok, Err, ℤ, pos, ◌+ℤ◌, ◌*ℤ◌, Bool, true, false, cond, nat_le, ap, sym, refl, arith, rules, tests}
use Rattle.std.proofs.lemmas.List.{take_more, take-append-drop}
use Rattle.teco_core.specs.declared.code.Code.{Code}
use Rattle.teco_core.specs.declared.code.Code.TheVariants.{Ovf}
use Rattle.teco_core.specs.Number.{fitted, digits_value, decimal_value}

pub digits_value-append : (n : ℕ) (xs ys : List ℕ) → digits_value n (xs ++ ys) ≡ digits_value (digits_value n xs) ys
unfolding digits_value
digits_value-append n [] ys = refl
digits_value-append n (x ∷ xs) ys = digits_value-append (n * 10 + (x - 48)) xs ys

-- More digits make no smaller number.
pub digits_value-rises : (n : ℕ) (ds : List ℕ) → n ≤ digits_value n ds
unfolding digits_value
digits_value-rises n [] = omega arith
digits_value-rises n (d ∷ ds) = omega (arith, digits_value-rises (n * 10 + (d - 48)) ds)

-- One more digit.
pub digits_value-next : (ds : List ℕ) (i d : ℕ) → i < length ds
    → digits_value 0 (take (i + 1) ds) ≡ digits_value 0 (take i ds) * 10 + (get_or ds i d - 48)
unfolding digits_value
digits_value-next ds i d below =
    ap (digits_value 0) (take_more ds i d below) ∙ digits_value-append 0 (take i ds) (get_or ds i d ∷ [])

-- A value past the range after some digits, or after all of them.
pub too_many : (ds : List ℕ) (i n : ℕ) → n ≤ digits_value 0 (take i ds) → 2 ^ 31 ≤ n → decimal_value ds ≡ Err Ovf
too_many ds i n reached large =
    let rest = ap (digits_value 0) (sym (take-append-drop i ds)) ∙ digits_value-append 0 (take i ds) (drop i ds) in
    let whole : 2 ^ 31 ≤ digits_value 0 ds = omega (arith, rest, digits_value-rises (digits_value 0 (take i ds)) (drop i ds)) in
    search (rules, tests)

-- What fits is itself; what doesn't is OVF.
by_test-ok : (b : Bool) (z n : ℤ) → cond b (Ok z) (Err Ovf) ≡ Ok n → n ≡ z
by_test-ok true z n is = cc
by_test-ok false z n is = cc

by_test-err : (b : Bool) (z : ℤ) (e : Code) → cond b (Ok z) (Err Ovf) ≡ Err e → (e ≡ Ovf) × (b ≡ false)
by_test-err true z e is = cc
by_test-err false z e is = (cc, refl)

fitted-large : (m : ℕ) (e : Code) → fitted (pos m) ≡ Err e → (e ≡ Ovf) × (2 ^ 31 ≤ m)
fitted-large m e is =
    let no = by_test-err (nat_le m (2 ^ 31 - 1)) (pos m) e is in
    let large : nat_le m (2 ^ 31 - 1) ≡ false → 2 ^ 31 ≤ m = λ h. search (rules, tests) in
    (no.0, large no.1)

-- A turn of the loop at the digit i, from the value of those before.
pub next-ok : (ds : List ℕ) (i d : ℕ) (v n : ℤ) → i < length ds → v ≡ pos (digits_value 0 (take i ds))
    → fitted ((v *ℤ pos 10) +ℤ pos (get_or ds i d - 48)) ≡ Ok n → n ≡ pos (digits_value 0 (take (i + 1) ds))
next-ok ds i d v n below so_far is =
    by_test-ok _ _ n (rw so_far at is) ∙ ap pos (sym (digits_value-next ds i d below))

pub next-err : (ds : List ℕ) (i d : ℕ) (v : ℤ) (e : Code) → i < length ds → v ≡ pos (digits_value 0 (take i ds))
    → fitted ((v *ℤ pos 10) +ℤ pos (get_or ds i d - 48)) ≡ Err e → decimal_value ds ≡ Err e
next-err ds i d v e below so_far is =
    let no = fitted-large _ e (rw so_far at is) in
    too_many ds (i + 1) _ (omega (arith, digits_value-next ds i d below)) no.1 ∙ ap Err (sym no.0)
