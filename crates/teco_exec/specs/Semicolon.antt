-- What begins with `;`.
use Rattle.std.specs.Prelude.{ℕ, Bool, false, List, [], ◌∷◌, ◌==◌}
use Prim.Native.Char.{code}

-- the first byte is `;`
abbrev pub is_semicolon : List ℕ → Bool
is_semicolon [] = false
is_semicolon (b ∷ bs) = b == code ";"
