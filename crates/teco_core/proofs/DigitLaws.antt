-- The digits of a number, as std writes them, have it as their value.
use Rattle.std.proofs.Common.{◌≡◌, ◌∙◌, ℕ, ◌^◌, ◌<◌, ◌≤◌, List, ◌∷◌, Ok, Err, pos, ap, refl, arith, rules, tests}
use Rattle.std.specs.Fmt.{decimal}
use Rattle.std.specs.Str.Parse.{AllDigits}
use Rattle.std.proofs.lemmas.Str.Parse.{FoldsDigits, numerals_by_fold, tells_digits}
use Rattle.std.proofs.lemmas.Fmt.{digits_value-decimal}
use Rattle.teco_core.specs.declared.code.Code.TheVariants.{Ovf}
use Rattle.teco_core.specs.Number.{fitted, digits_value, decimal_value}

reads_from_the_left : FoldsDigits digits_value
unfolding digits_value
reads_from_the_left = record { empty = λ n. refl; more = λ n c cs h. refl }

pub value : (n : ℕ) → n < 2 ^ 64 → digits_value 0 (decimal n) ≡ n
value n small = digits_value-decimal (numerals_by_fold (AllDigits 10) tells_digits digits_value reads_from_the_left) n small

pub leading_zero : (digits : List ℕ) → digits_value 0 (48 ∷ digits) ≡ digits_value 0 digits
unfolding digits_value
leading_zero digits = refl

fits : (n : ℕ) → n < 2 ^ 31 → fitted (pos n) ≡ Ok (pos n)
fits n small = search (rules, tests)

is_too_large : (n : ℕ) → 2 ^ 31 ≤ n → fitted (pos n) ≡ Err Ovf
is_too_large n large = search (rules, tests)

pub read : (n : ℕ) → n < 2 ^ 31 → decimal_value (decimal n) ≡ Ok (pos n)
read n small = ap (λ m. fitted (pos m)) (value n (omega arith)) ∙ fits n small

pub too_large : (n : ℕ) → 2 ^ 31 ≤ n → n < 2 ^ 64 → decimal_value (decimal n) ≡ Err Ovf
too_large n large small = ap (λ m. fitted (pos m)) (value n small) ∙ is_too_large n large
