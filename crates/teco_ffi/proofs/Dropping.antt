-- What is left of two parts of a text from a place on is what is left of the text, and so is what comes before a place.
use Rattle.std.proofs.Common.{◌≡◌, ℕ, zero, suc, ◌-◌, List, [], ◌∷◌, ◌++◌, length, take, drop, refl, ap, arith}

pub drop_in_parts : (n : ℕ) (a b : List ℕ) → drop n a ++ drop (n - length a) b ≡ drop n (a ++ b)
drop_in_parts zero a b = let e : 0 - length a ≡ 0 = omega arith in rw e refl
drop_in_parts (suc n) [] b = let e : suc n - 0 ≡ suc n = omega arith in rw e refl
drop_in_parts (suc n) (x ∷ a) b = let e : suc n - suc (length a) ≡ n - length a = omega arith in rw e (drop_in_parts n a b)

pub take_in_parts : (n : ℕ) (a b : List ℕ) → take n a ++ take (n - length a) b ≡ take n (a ++ b)
take_in_parts zero a b = let e : 0 - length a ≡ 0 = omega arith in rw e refl
take_in_parts (suc n) [] b = let e : suc n - 0 ≡ suc n = omega arith in rw e refl
take_in_parts (suc n) (x ∷ a) b =
    let e : suc n - suc (length a) ≡ n - length a = omega arith in rw e (ap (λ (l : List ℕ). x ∷ l) (take_in_parts n a b))
