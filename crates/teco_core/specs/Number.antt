-- Numbers: whole, from -2147483648 to 2147483647.
use Rattle.std.specs.Prelude.{ℕ, zero, ◌+◌, ◌-◌, ◌*◌, ◌^◌, ◌&&◌, List, [], ◌∷◌, Result, Ok, Err, ℤ, pos, negsuc, ◌+ℤ◌, ◌-ℤ◌, ◌*ℤ◌, ◌≤ℤ◌, Bool, true, false, nat_lt, int_le, int_div, bit_and, bit_or, if◌then◌else◌}
use Rattle.teco_core.specs.declared.code.Code.{Code}
use Rattle.teco_core.specs.declared.code.Code.TheVariants.{Ovf, Dvz}
use Rattle.teco_core.specs.declared.number.Op.{Op}
use Rattle.teco_core.specs.declared.number.Op.TheVariants.{Plus, Minus, Times, Over, And, Or}

abbrev pub lowest : ℤ
lowest = negsuc (2 ^ 31 - 1)

abbrev pub highest : ℤ
highest = pos (2 ^ 31 - 1)

-- a number that is in the range
abbrev pub IsNumber : ℤ → Type 0
IsNumber n = (lowest ≤ℤ n) × (n ≤ℤ highest)

-- A result outside the range is OVF.
abbrev pub fitted : ℤ → Result ℤ Code
fitted n = if int_le lowest n && int_le n highest then Ok n else Err Ovf

-- Division cuts toward zero; by zero it is DVZ.
abbrev pub quotient : ℤ → ℤ → Result ℤ Code
quotient a (pos zero) = Err Dvz
quotient a b = fitted (int_div a b)

-- 32 bits in two's complement
abbrev pub to_word : ℤ → ℕ
to_word (pos n) = n
to_word (negsuc n) = 2 ^ 32 - 1 - n

abbrev pub of_word : ℕ → ℤ
of_word n = if nat_lt n (2 ^ 31) then pos n else negsuc (2 ^ 32 - 1 - n)

-- what an operator makes of two numbers
abbrev pub operation : Op → ℤ → ℤ → Result ℤ Code
operation Plus a b = fitted (a +ℤ b)
operation Minus a b = fitted (a -ℤ b)
operation Times a b = fitted (a *ℤ b)
operation Over a b = quotient a b
operation And a b = Ok (of_word (bit_and (to_word a) (to_word b)))
operation Or a b = Ok (of_word (bit_or (to_word a) (to_word b)))

-- the value of decimal digits that are read on from n
unfoldable pub digits_value : ℕ → List ℕ → ℕ
digits_value n [] = n
digits_value n (d ∷ ds) = digits_value (n * 10 + (d - 48)) ds

-- the value of a run of digits; above 2147483647 it is OVF
abbrev pub decimal_value : List ℕ → Result ℤ Code
decimal_value ds = fitted (pos (digits_value 0 ds))

-- an answer as a number: -1 for yes, 0 for no
abbrev pub truth : Bool → ℤ
truth true = negsuc 0
truth false = pos 0
