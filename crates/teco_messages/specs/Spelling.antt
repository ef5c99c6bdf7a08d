-- How bytes are spelled.
use Rattle.std.specs.Prelude.{ℕ, ◌+◌, ◌-◌, ◌/◌, ◌%◌, ◌==◌, List, [], ◌∷◌, ◌++◌, length, take, codes, nat_lt, if◌then◌else◌}
use Rattle.std.specs.Fmt.{decimal}
use Rattle.std.specs.List.{flat_map}
use Rattle.teco_messages.specs.declared.spelling.TheConstants.{MOST_SHOWN}
use Rattle.teco_core.specs.declared.ascii.TheConstants.{ESC}
use Prim.Native.Char.{code}

-- the digit of a number below 16
abbrev pub hex_digit : ℕ → ℕ
hex_digit n = if nat_lt n 10 then code "0" + n else code "A" - 10 + n

-- ESC is a dollar sign, another control byte a caret and a letter, DEL a caret and a question mark; a byte past
-- them is two hexadecimal digits in brackets, and any other is as it is.
abbrev pub spelling : ℕ → List ℕ
spelling b =
    if b == ESC then codes "$"
    else if nat_lt b (code " ") then code "^" ∷ (b + 64) ∷ []
    else if nat_lt b (code "\u{7f}") then b ∷ []
    else if b == code "\u{7f}" then codes "^?"
    else code "[" ∷ hex_digit (b / 16) ∷ hex_digit (b % 16) ∷ codes "]"

abbrev pub spelled : List ℕ → List ℕ
spelled bytes = flat_map spelling bytes

-- A token of more bytes than are shown is cut, and its length is told.
abbrev pub token_shown : List ℕ → List ℕ
token_shown bytes =
    if nat_lt MOST_SHOWN (length bytes)
    then spelled (take MOST_SHOWN bytes) ++ codes "... (" ++ decimal (length bytes) ++ codes " bytes)"
    else spelled bytes
