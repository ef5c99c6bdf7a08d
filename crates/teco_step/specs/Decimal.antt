-- Numbers in decimal that are in the buffer.
use Rattle.std.specs.Prelude.{ℕ, ◌+◌, Bool, false, ◌&&◌, List, [], ◌∷◌, length, drop, ℤ, pos, neg_ℤ, ◌==◌, if◌then◌else◌}
use Rattle.std.specs.Fmt.{signed_decimal}
use Rattle.teco_core.specs.declared.code.Code.TheVariants.{Arg}
use Rattle.teco_core.specs.declared.arguments.Level.{Level}
use Rattle.teco_core.specs.declared.arguments.Level.TheVariants as level
use Rattle.teco_core.specs.Refusal.{◌>>=◌}
use Rattle.teco_core.specs.Number.{digits_value, fitted}
use Rattle.teco_core.specs.Arguments.{Arguments, give, level_of}
use Rattle.teco_scan.specs.Scan.{begins_run, run_of}
use Rattle.teco_store.specs.State.{State, pointed}
use Rattle.teco_step.specs.Editing.{inserts}
use Rattle.teco_step.specs.Step.{Made, edits, takes_one}
use Prim.Native.Char.{code}

-- what is written as a number: its value, and how many bytes it has
pub record Numeral : Type 0 where
  pub value : ℤ
  pub size : ℕ

-- the digits that bytes begin with; 0 where there are none
abbrev pub unsigned_at : List ℕ → Numeral
unsigned_at bs = record { value = pos (digits_value 0 (run_of bs)); size = length (run_of bs) }

abbrev pub negated : Numeral → Numeral
negated n = record { value = neg_ℤ n.value; size = n.size + 1 }

-- whether bytes begin with a - that is directly before digits
abbrev pub begins_negative : List ℕ → Bool
begins_negative [] = false
begins_negative (b ∷ bs) = b == code "-" && begins_run bs

-- The number that bytes begin with.
abbrev pub numeral_at : List ℕ → Numeral
numeral_at bs = if begins_negative bs then negated (unsigned_at (drop 1 bs)) else unsigned_at bs

-- A number that is read is given, and the pointer goes after it.
abbrev pub reads : Numeral → State → Arguments → Made
reads written s a = do
  n ← fitted written.value
  given ← give n a
  edits (pointed s (s.pointer + written.size)) given 0

-- The number at the pointer is read.
abbrev pub read_number : State → Arguments → Made
read_number s a = reads (numeral_at (drop s.pointer s.text)) s a

-- n comes in at the pointer, in decimal.
abbrev pub insert_number : State → Arguments → Made
insert_number s a = do
  n ← takes_one Arg a
  inserts (signed_decimal n) s a

-- What \ does, by what the level has: n\ inserts n; without n it reads the number at the pointer.
abbrev pub decimal_at_level : Level → State → Arguments → Made
decimal_at_level (level.Value n) s a = insert_number s a
decimal_at_level l s a = read_number s a

abbrev pub decimal : State → Arguments → Made
decimal s a = decimal_at_level (level_of a.expression) s a
