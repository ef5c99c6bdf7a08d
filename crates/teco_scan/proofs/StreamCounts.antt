-- Lemmas on texts that are digits and a brace or a tilde.
use Rattle.std.proofs.Common.{◌≡◌, ℕ, ◌+◌, ◌-◌, ◌*◌, ◌<◌, ◌≤◌, ◌^◌, suc, List, [], ◌∷◌, ◌++◌, length, take, get_or, true, leb, Ok, pos, refl, ap, sym, subst, ◌∙◌, arith, rules, tests}
use Rattle.std.proofs.lemmas.Bool.Decides.{nat_tests}
use Rattle.std.proofs.lemmas.List.{get_or_at, take_at, length_push}
use Rattle.std.proofs.Math.Nat.{mul_assoc, pow-le-pow_right, pow-succ'}
use Rattle.std.proofs.lemmas.Bool.{and_parts}
use Rattle.std.specs.List.{list_all}
use Rattle.teco_scan.specs.Stream.{asked_by, history_asked, history_asked_in}
use Rattle.teco_core.specs.Ascii.{is_digit}
use Rattle.teco_core.specs.Number.{decimal_value, digits_value, fitted}

is_digit-bounds : (d : ℕ) → is_digit d ≡ true → (48 ≤ d) × (d ≤ 57)
is_digit-bounds d e = grind (arith, nat_tests)

-- Each digit makes the value at most ten times as large.
digits_value-below : (n b : ℕ) (ds : List ℕ) → n < b → list_all is_digit ds ≡ true → digits_value n ds < b * 10 ^ length ds
unfolding digits_value
digits_value-below n b [] small digits = omega (arith, small)
digits_value-below n b (d ∷ ds) small digits =
    let each = and_parts (is_digit d) (list_all is_digit ds) digits in
    let next = is_digit-bounds d each.0 in
    let below : digits_value (n * 10 + (d - 48)) ds < (b * 10) * 10 ^ length ds = digits_value-below (n * 10 + (d - 48)) (b * 10) ds (omega (arith, small, next.1)) each.1 in
    let more : (b * 10) * 10 ^ length ds ≡ b * 10 ^ suc (length ds) = mul_assoc b 10 (10 ^ length ds) ∙ ap (λ k. b * k) (sym (pow-succ' 10 (length ds))) in
    subst (λ (k : ℕ). digits_value (n * 10 + (d - 48)) ds < k) more below

fits : (n : ℕ) → n < 2 ^ 31 → fitted (pos n) ≡ Ok (pos n)
fits n small = search (rules, tests)

-- Nine digits say a number in the range.
pub few_digits-fit : (ds : List ℕ) → length ds ≤ 9 → list_all is_digit ds ≡ true → decimal_value ds ≡ Ok (pos (digits_value 0 ds))
few_digits-fit ds few digits =
    let most : 10 ^ length ds ≤ 10 ^ 9 = pow-le-pow_right {n = 10} (omega arith) {i = length ds} {j = 9} few in
    fits (digits_value 0 ds) (omega (arith, digits_value-below 0 1 ds (omega arith) digits, most))

-- bytes that end in this one
pub history_asked-push : (ds : List ℕ) (b : ℕ) → history_asked (ds ++ b ∷ []) ≡ history_asked_in ds b
history_asked-push ds b =
    let last : length (ds ++ b ∷ []) - 1 ≡ length ds = omega (arith, length_push ds b) in
    ap (λ n. history_asked_in (take n (ds ++ b ∷ [])) (get_or (ds ++ b ∷ []) n 0)) last
    ∙ ap (λ l. history_asked_in l (get_or (ds ++ b ∷ []) (length ds) 0)) (take_at ds (b ∷ []) (length ds) refl)
    ∙ ap (history_asked_in ds) (get_or_at ds b [] 0 (length ds) refl)

pub history_asked-digits : (bs ds : List ℕ) (b : ℕ) → bs ≡ ds ++ b ∷ [] → length ds ≤ 9 → list_all is_digit ds ≡ true → history_asked bs ≡ asked_by b ds
history_asked-digits bs ds b e few digits =
    let few_test : leb (length ds) 9 ≡ true = grind (arith, nat_tests) in
    ap history_asked e ∙ history_asked-push ds b ∙ rw (few_test, digits) refl
