-- A part of a text in two halves.
use Rattle.std.proofs.Common.{◌≡◌, ◌∙◌, ap, sym, ℕ, ◌+◌, ◌-◌, ◌≤◌, ◌<◌, min, List, ◌++◌, length, take, drop, arith, ⊎_elim}
use Rattle.std.specs.List.{between}
use Rattle.std.proofs.lemmas.Bool.{cases_lt}
use Rattle.std.proofs.lemmas.List.{append-nil, take-append-le, drop-append-le}
use Rattle.std.proofs.lemmas.Slice.{between_is, between_to_end, between_from_start}
use Rattle.std.proofs.Math.Seq.{take-append-add, drop-append-add, drop-length}

in_first : (xs ys : List ℕ) (low high : ℕ) → high ≤ length xs → drop low (take high (xs ++ ys)) ≡ between low high xs ++ between 0 0 ys
in_first xs ys low high inside =
    ap (drop low) (take-append-le high xs ys inside) ∙ sym (between_is xs low high) ∙ sym (append-nil (between low high xs))
    ∙ ap (λ l. between low high xs ++ l) (sym (between_from_start ys 0))

in_both : (xs ys : List ℕ) (low more : ℕ) → low ≤ length xs → drop low (take (length xs + more) (xs ++ ys)) ≡ between low (length xs) xs ++ between 0 more ys
in_both xs ys low more inside =
    ap (drop low) (take-append-add xs ys more) ∙ drop-append-le low xs (take more ys) inside
    ∙ ap (λ l. l ++ take more ys) (sym (between_to_end xs low (length xs) (omega arith)))
    ∙ ap (λ l. between low (length xs) xs ++ l) (sym (between_from_start ys more))

in_second : (xs ys : List ℕ) (n more : ℕ) → drop (length xs + n) (take (length xs + more) (xs ++ ys)) ≡ between (length xs) (length xs) xs ++ between n more ys
in_second xs ys n more =
    ap (drop (length xs + n)) (take-append-add xs ys more) ∙ drop-append-add xs (take more ys) n ∙ sym (between_is ys n more)
    ∙ ap (λ l. l ++ between n more ys) (sym (between_to_end xs (length xs) (length xs) (omega arith) ∙ drop-length xs))

-- what lies in the first half, and what in the second
pub cut : (xs ys : List ℕ) (low high p q u v : ℕ) → low ≤ high → p ≡ min low (length xs) → q ≡ min high (length xs) → u ≡ low - length xs → v ≡ high - length xs
    → drop low (take high (xs ++ ys)) ≡ between p q xs ++ between u v ys
cut xs ys low high p q u v ordered ep eq eu ev =
    ⊎_elim
    (λ (h : length xs < high).
    let to_middle : q ≡ length xs = omega arith in
    let to_high : high ≡ length xs + v = omega arith in
    ⊎_elim
    (λ (k : length xs < low).
    let from_middle : p ≡ length xs = omega arith in
    let from_low : low ≡ length xs + u = omega arith in
    rw (to_middle, to_high, from_middle, from_low) (in_second xs ys u v))
    (λ (k : low ≤ length xs).
    let from_low : p ≡ low = omega arith in
    let from_0 : u ≡ 0 = omega arith in
    rw (to_middle, to_high, from_low, from_0) (in_both xs ys low v k))
    (cases_lt (length xs) low))
    (λ (h : high ≤ length xs).
    let to_high : q ≡ high = omega arith in
    let from_low : p ≡ low = omega arith in
    let from_0 : u ≡ 0 = omega arith in
    let to_0 : v ≡ 0 = omega arith in
    rw (to_high, from_low, from_0, to_0) (in_first xs ys low high h))
    (cases_lt (length xs) high)
