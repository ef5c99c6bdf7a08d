-- A number that is written in decimal is read back.
use Rattle.std.proofs.Common.{◌≡◌, refl, ap, ◌∙◌, ◌-◌, ℕ, suc, ◌^◌, ◌<◌, ◌≤◌, true, false, ◌&&◌, List, [], ◌∷◌, ◌++◌, length, ℤ, pos, negsuc, decimal, arith, add-one, ne_eqb, leb-true}
use Rattle.std.specs.Prelude.{◌==◌, int_le}
use Rattle.std.specs.Fmt.{signed_decimal}
use Rattle.std.proofs.lemmas.Fmt.{decimal_nonempty, digits_decimal, digits_value-decimal}
use Rattle.std.proofs.lemmas.Str.Parse.{IsNumeralModel, numerals_by_fold, tells_all_ascii_digits}
use Rattle.std.specs.Str.{all_ascii_digits}
use Rattle.teco_core.specs.Ascii.{is_digit}
use Rattle.teco_core.specs.Number.{digits_value, lowest, highest}
use Rattle.teco_scan.specs.Scan.{begins_run, run_of}
use Rattle.teco_step.specs.Decimal.{begins_negative, unsigned_at, negated, numeral_at}
use Rattle.teco_step.proofs.Decimals.{run_ends}

abbrev AreDigits : List ℕ → Type 0
AreDigits ds = all_ascii_digits ds ≡ true

decimals : IsNumeralModel AreDigits (digits_value 0)
unfolding digits_value
decimals = numerals_by_fold AreDigits tells_all_ascii_digits digits_value (record { empty = λ n. refl; more = λ n c cs h. refl })

digits_first : (d : ℕ) (ds : List ℕ) → AreDigits (d ∷ ds) → is_digit d ≡ true
digits_first d ds e = elim (is_digit d) as (λ v. (v && all_ascii_digits ds) ≡ true → v ≡ true) [ true ↦ λ h. refl | false ↦ λ h. h ] e

digits_rest : (d : ℕ) (ds : List ℕ) → AreDigits (d ∷ ds) → AreDigits ds
digits_rest d ds e = elim (is_digit d) as (λ v. (v && all_ascii_digits ds) ≡ true → AreDigits ds) [ true ↦ λ h. h | false ↦ λ h. absurd cc ] e

-- digits, and then none
run_front : (ds rest : List ℕ) → AreDigits ds → begins_run rest ≡ false → run_of (ds ++ rest) ≡ ds
unfolding run_of
run_front [] rest e ends = run_ends rest ends
run_front (d ∷ ds) rest e ends = rw (digits_first d ds e) (ap (λ l. d ∷ l) (run_front ds rest (digits_rest d ds e) ends))

begins_with_run : (ds rest : List ℕ) → AreDigits ds → 0 < length ds → begins_run (ds ++ rest) ≡ true
begins_with_run [] rest e some = absurd (omega arith)
begins_with_run (d ∷ ds) rest e some = digits_first d ds e

begins_with_no_sign : (ds rest : List ℕ) → AreDigits ds → 0 < length ds → begins_negative (ds ++ rest) ≡ false
begins_with_no_sign [] rest e some = absurd (omega arith)
begins_with_no_sign (d ∷ ds) rest e some =
    let high = (tells_all_ascii_digits.parts d ds e).0.0 in
    let other : (d == 45) ≡ false = ne_eqb d 45 (λ same. omega arith) in
    rw other refl

natural_back : (n : ℕ) (rest : List ℕ) → n < 2 ^ 64 → begins_run rest ≡ false
    → unsigned_at (decimal n ++ rest) ≡ record { value = pos n; size = length (decimal n) }
natural_back n rest small ends =
    rw (run_front (decimal n) rest (digits_decimal decimals n small) ends, digits_value-decimal decimals n small) refl

pub number_back : (n : ℤ) (rest : List ℕ) → int_le lowest n ≡ true → int_le n highest ≡ true → begins_run rest ≡ false
    → numeral_at (signed_decimal n ++ rest) ≡ record { value = n; size = length (signed_decimal n) }
number_back (pos n) rest low high ends =
    let le : n ≤ 2 ^ 31 - 1 = leb-true n (2 ^ 31 - 1) high in
    let small : n < 2 ^ 64 = omega arith in
    rw (begins_with_no_sign (decimal n) rest (digits_decimal decimals n small) (decimal_nonempty n small)) (natural_back n rest small ends)
number_back (negsuc n) rest low high ends =
    let le : n ≤ 2 ^ 31 - 1 = leb-true n (2 ^ 31 - 1) low in
    let small : suc n < 2 ^ 64 = omega arith in
    rw (begins_with_run (decimal (suc n)) rest (digits_decimal decimals (suc n) small) (decimal_nonempty (suc n) small))
    (ap negated (natural_back (suc n) rest small ends) ∙ ap (λ k. record { value = negsuc n; size = k }) (add-one _))
