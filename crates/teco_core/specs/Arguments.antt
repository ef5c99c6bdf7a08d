-- Arguments: the numbers before a command, and the rules by which they are built and taken.
use Rattle.std.specs.Prelude.{ℕ, List, [], ◌∷◌, length, Option, Some, None, Result, Ok, Err, ℤ, pos, negsuc, neg_ℤ, ◌==◌, if◌then◌else◌}
use Rattle.teco_core.specs.declared.limits.TheConstants.{PARENTHESIS_LIMIT}
use Rattle.teco_core.specs.declared.code.Code.{Code}
use Rattle.teco_core.specs.declared.code.Code.TheVariants.{Arg, Mrp, Pdo}
use Rattle.teco_core.specs.declared.number.Op.{Op}
use Rattle.teco_core.specs.declared.number.Op.TheVariants as op
use Rattle.teco_core.specs.declared.arguments.Sign.{Sign}
use Rattle.teco_core.specs.declared.arguments.Sign.TheVariants.{Positive, Negative}
use Rattle.teco_core.specs.declared.arguments.Expression.{Expression}
use Rattle.teco_core.specs.declared.arguments.Expression.TheVariants.{Nothing, Number, Signed, Operation}
use Rattle.teco_core.specs.declared.arguments.Taken.{Taken}
use Rattle.teco_core.specs.declared.arguments.Taken.TheVariants as taken
use Rattle.teco_core.specs.declared.arguments.Level.{Level}
use Rattle.teco_core.specs.declared.arguments.Level.TheVariants as level
use Rattle.teco_core.specs.Refusal.{◌>>=◌}
use Rattle.teco_core.specs.Number.{fitted, operation}

-- a finished first value or none; the expression at the level in use; those around the open parentheses, the innermost first
pub record Arguments : Type 0 where
  pub first : Option ℤ
  pub expression : Expression
  pub outer : List Expression

abbrev pub no_arguments : Arguments
no_arguments = record { first = None; expression = Nothing; outer = [] }

-- The number that an expression makes with a value: the value itself where there is nothing; a sign makes it itself or its
-- negative; a value and an operator work on it; after a value alone it is ARG.
abbrev pub with_value : Expression → ℤ → Result ℤ Code
with_value Nothing v = Ok v
with_value (Signed Positive) v = Ok v
with_value (Signed Negative) v = fitted (neg_ℤ v)
with_value (Operation a o) v = operation o a v
with_value (Number a) v = Err Arg

unfoldable pub give : ℤ → Arguments → Result Arguments Code
give v a = do
  n ← with_value a.expression v
  Ok (record a { expression = Number n })

-- An operator waits after a value. Where there is nothing only + and - may come, as signs. Where one waits already it is ARG.
abbrev pub with_operator : Op → Expression → Result Expression Code
with_operator o (Number v) = Ok (Operation v o)
with_operator op.Plus Nothing = Ok (Signed Positive)
with_operator op.Minus Nothing = Ok (Signed Negative)
with_operator o Nothing = Err Arg
with_operator o (Signed s) = Err Arg
with_operator o (Operation v w) = Err Arg

unfoldable pub operate : Op → Arguments → Result Arguments Code
operate o a = do
  e ← with_operator o a.expression
  Ok (record a { expression = e })

-- ( opens a level, not after a value alone; past the limit of open ones it is PDO.
abbrev pub opened_after : Expression → Arguments → Result Arguments Code
opened_after (Number v) a = Err Arg
opened_after e a = if length a.outer == PARENTHESIS_LIMIT then Err Pdo
    else Ok (record a { expression = Nothing; outer = e ∷ a.outer })

unfoldable pub open_level : Arguments → Result Arguments Code
open_level a = opened_after a.expression a

-- ) closes the level and gives its value to the one around it.
abbrev pub closed_into : Expression → List Expression → Option ℤ → Result Arguments Code
closed_into (Number v) (e ∷ es) first = give v (record { first = first; expression = e; outer = es })
closed_into e es first = Err Arg

unfoldable pub close_level : Arguments → Result Arguments Code
close_level a = closed_into a.expression a.outer a.first

-- A comma on the ground makes a value alone the first one, where there is none.
abbrev pub divided : Option ℤ → List Expression → Expression → Result Arguments Code
divided None [] (Number v) = Ok (record { first = Some v; expression = Nothing; outer = [] })
divided first es e = Err Arg

unfoldable pub comma : Arguments → Result Arguments Code
comma a = divided a.first a.outer a.expression

-- H needs empty arguments and makes them 0 and z.
abbrev pub paired : ℕ → Option ℤ → List Expression → Expression → Result Arguments Code
paired z None [] Nothing = Ok (record { first = Some (pos 0); expression = Number (pos z); outer = [] })
paired z first es e = Err Arg

unfoldable pub give_pair : ℕ → Arguments → Result Arguments Code
give_pair z a = paired z a.first a.outer a.expression

-- a lone sign as a number
abbrev pub sign_value : Sign → ℤ
sign_value Positive = pos 1
sign_value Negative = negsuc 0

-- The value of the ground: none, itself, or a lone sign's; an operator may not wait after a value.
abbrev pub ground_value : Expression → Result (Option ℤ) Code
ground_value Nothing = Ok None
ground_value (Number v) = Ok (Some v)
ground_value (Signed s) = Ok (Some (sign_value s))
ground_value (Operation v o) = Err Arg

-- A first value with nothing after the comma is ARG.
abbrev pub with_first : Option ℤ → Option ℤ → Result Taken Code
with_first None None = Ok taken.None
with_first None (Some n) = Ok (taken.One n)
with_first (Some m) (Some n) = Ok (taken.Two m n)
with_first (Some m) None = Err Arg

-- Taking, with no level open, else MRP; what is left are no arguments.
abbrev pub taken_on : List Expression → Arguments → Result Taken Code
taken_on [] a = do
  v ← ground_value a.expression
  with_first a.first v
taken_on (e ∷ es) a = Err Mrp

unfoldable pub taken_from : Arguments → Result Taken Code
taken_from a = taken_on a.outer a

-- the level in use, as commands see it that look at it
abbrev pub level_of : Expression → Level
level_of Nothing = level.Empty
level_of (Number n) = level.Value n
level_of (Signed s) = level.Sign (sign_value s)
level_of (Operation v o) = level.Waits

abbrev pub emptied : Arguments → Arguments
emptied a = record a { expression = Nothing }
