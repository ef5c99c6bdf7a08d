-- The bytes of ASCII that the language tells apart. Letters, digits and cases are std's own.
use Rattle.std.specs.Prelude.{ℕ, Bool, ◌||◌, ◌==◌}
use Rattle.std.specs.Char.{is_ascii_alphabetic, is_ascii_digit, is_ascii_lowercase, is_ascii_uppercase, to_ascii_uppercase}

-- A to Z
abbrev pub is_upper : ℕ → Bool
is_upper b = is_ascii_uppercase b

-- a to z
abbrev pub is_lower : ℕ → Bool
is_lower b = is_ascii_lowercase b

abbrev pub is_letter : ℕ → Bool
is_letter b = is_ascii_alphabetic b

abbrev pub is_digit : ℕ → Bool
is_digit b = is_ascii_digit b

-- a byte, with a small letter as its capital
abbrev pub upper : ℕ → ℕ
upper b = to_ascii_uppercase b

-- LF, VT and FF
abbrev pub is_line_end : ℕ → Bool
is_line_end b = b == 10 || b == 11 || b == 12

-- SP, CR, LF and NUL, which are ignored between tokens
abbrev pub is_filler : ℕ → Bool
is_filler b = b == 32 || b == 13 || b == 10 || b == 0
