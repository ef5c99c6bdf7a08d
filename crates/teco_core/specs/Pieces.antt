-- Arguments as they are typed: a row of numbers, operators, parentheses and commas.
use Rattle.std.specs.Prelude.{List, [], ◌∷◌, Result, Ok, ℤ}
use Rattle.teco_core.specs.declared.code.Code.{Code}
use Rattle.teco_core.specs.declared.number.Op.{Op}
use Rattle.teco_core.specs.declared.arguments.Taken.{Taken}
use Rattle.teco_core.specs.Refusal.{◌>>=◌}
use Rattle.teco_core.specs.Arguments.{Arguments, no_arguments, give, operate, open_level, close_level, comma, taken_from}

pub data Piece : Type 0 where
  number : ℤ → Piece
  sign : Op → Piece
  opening : Piece
  closing : Piece
  dividing : Piece

abbrev pub typed : Piece → Arguments → Result Arguments Code
typed (number v) a = give v a
typed (sign o) a = operate o a
typed opening a = open_level a
typed closing a = close_level a
typed dividing a = comma a

-- the arguments after the pieces, one after another
unfoldable pub built : List Piece → Arguments → Result Arguments Code
built [] a = Ok a
built (p ∷ ps) a = typed p a >>= built ps

-- what a command takes after them, with nothing typed before
unfoldable pub taken_after : List Piece → Result Taken Code
taken_after ps = built ps no_arguments >>= taken_from
