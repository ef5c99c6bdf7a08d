-- What a line puts into registers: A=TEXT or A:=N.
use Rattle.std.specs.Prelude.{◌≡◌, ◌≢◌, ℕ, ℤ, List, ◌∷◌, ◌++◌, Some, codes, FitsSigned}
use Rattle.std.specs.Int.{w32}
use Rattle.std.specs.List.{All}
use Rattle.std.specs.Str.Parse.{IsNumeral, signed_digits_value, without_leading_sign}
use Rattle.clap.specs.Words.{Text}
use Rattle.teco_core.specs.Register.{register_of}
use Rattle.teco_cli.specs.declared.assignment.AssignedValue.{AssignedValue}
use Rattle.teco_cli.specs.declared.assignment.AssignedValue.TheVariants as value
use Rattle.teco_cli.specs.declared.assignment.Assignment.{Assignment}
use Prim.Native.Char.{code}

-- The digits, after a minus, a plus or neither, spell this number of a register: it fits into 32 bits with a sign.
abbrev pub SpellsNumber : Text → ℤ → Type 0
SpellsNumber digits number = IsNumeral 10 (without_leading_sign digits) × (number ≡ signed_digits_value 10 digits) × FitsSigned w32 number

-- What stands after a register's name puts this there: =TEXT a text, :=N a number.
abbrev pub Assigns : Text → AssignedValue → Type 0
Assigns rest (value.Text text) = rest ≡ codes "=" ++ text.items
Assigns rest (value.Number number) = (digits : Text) × (rest ≡ codes ":=" ++ digits) × SpellsNumber digits number

-- none of the bytes is =
abbrev pub HasNoMark : List ℕ → Type 0
HasNoMark bytes = All (λ byte. byte ≢ code "=") bytes

-- and it puts nothing there
abbrev pub AssignsNothing : Text → Type 0
AssignsNothing rest = (put : AssignedValue) → Assigns rest put → ⊥

-- The word is this assignment: the name of a register, a letter in either case or a digit, and what is put there.
abbrev pub IsAssignment : Text → Assignment → Type 0
IsAssignment word assignment = (name : ℕ) × (rest : Text) × (word ≡ name ∷ rest)
    × (register_of name ≡ Some assignment.register) × Assigns rest assignment.value

-- and the word is none
abbrev pub IsNoAssignment : Text → Type 0
IsNoAssignment word = (assignment : Assignment) → IsAssignment word assignment → ⊥

-- what is told of such a word
abbrev pub why_no_assignment : Text → Text
why_no_assignment word = codes "invalid value '" ++ word ++ codes "' for '--assign <A=TEXT>': expected A=TEXT or A:=N, where A is a letter or a digit, and N a number from -2147483648 to 2147483647"
