-- Digits, one on and at the end.
use Rattle.std.proofs.Common.{◌≡◌, ◌∙◌, ℕ, ◌+◌, ◌-◌, ◌*◌, ◌<◌, ◌≤◌, List, Ok, length, drop, get_or, false, true, ap, sym, arith}
use Rattle.std.specs.Prelude.{◌&&◌, ◌==◌}
use Rattle.std.proofs.lemmas.Bool.Decides.{nat_tests}
use Rattle.std.proofs.lemmas.List.{at_drop_more, drop_all}
use Rattle.std.specs.List.{list_all}
use Rattle.teco_core.specs.Ascii.{is_digit}
use Rattle.teco_core.specs.Number.{digits_value}
use Rattle.teco_debugger.specs.Number.{number_in}

-- one digit on
pub digits-more : (bytes : List ℕ) (i : ℕ) → i < length bytes → true ≡ is_digit (get_or bytes i 0) → list_all is_digit (drop i bytes) ≡ list_all is_digit (drop (i + 1) bytes)
digits-more bytes i l e = at_drop_more (list_all is_digit) bytes i 0 l ∙ ap (λ b. b && list_all is_digit (drop (i + 1) bytes)) (sym e)

pub digits_value-more : (n : ℕ) (ds : List ℕ) (i : ℕ) → i < length ds → digits_value n (drop i ds) ≡ digits_value (n * 10 + (get_or ds i 0 - 48)) (drop (i + 1) ds)
unfolding digits_value
digits_value-more n ds i l = at_drop_more (digits_value n) ds i 0 l

-- at the end
pub number_is : (bytes : List ℕ) (i n : ℕ) → false ≡ (length bytes == 0) → length bytes ≤ 18 → length bytes ≤ i → list_all is_digit bytes ≡ list_all is_digit (drop i bytes)
    → digits_value 0 bytes ≡ digits_value n (drop i bytes) → Ok n ≡ number_in bytes
unfolding digits_value
number_is bytes i n some few end digits value =
    let all : list_all is_digit bytes ≡ true = digits ∙ ap (list_all is_digit) (drop_all i bytes end) in
    let is : digits_value 0 bytes ≡ n = value ∙ ap (digits_value n) (drop_all i bytes end) in
    grind (arith, nat_tests)
