-- Codes by which arguments and texts are refused: neither want of memory nor a failed terminal.
use Rattle.std.proofs.Common.{arith, ◌≡◌, List, [], ◌∷◌, Option, Some, None, Err, ℤ, true, false, sym}
use Rattle.teco_core.specs.declared.code.Code.{Code}
use Rattle.teco_core.specs.declared.arguments.Expression.{Expression}
use Rattle.teco_core.specs.declared.arguments.Expression.TheVariants.{Nothing, Number, Signed, Operation}
use Rattle.teco_core.specs.Arguments.{Arguments, taken_on, taken_from, with_first}
use Rattle.teco_scan.specs.Tree.{is_fault}
use Rattle.teco_step.specs.Ending.{is_unfinished_code}

-- a text's own faults
pub fault_is_finished : (c : Code) → is_fault c ≡ true → is_unfinished_code c ≡ false
fault_is_finished c e = grind arith

-- what a command takes
first_taken : (f v : Option ℤ) (c : Code) → with_first f v ≡ Err c → is_unfinished_code c ≡ false
first_taken f v c e = grind arith

level_taken : (a : Arguments) (x : Expression) (c : Code) → taken_on [] (record a { expression = x }) ≡ Err c → is_unfinished_code c ≡ false
level_taken a Nothing c e = first_taken a.first None c e
level_taken a (Number n) c e = first_taken a.first (Some n) c e
level_taken a (Signed s) c e = first_taken a.first (Some _) c e
level_taken a (Operation n o) c e = grind arith

levels_taken : (a : Arguments) (es : List Expression) (c : Code) → taken_on es a ≡ Err c → is_unfinished_code c ≡ false
levels_taken a [] c e = level_taken a a.expression c e
levels_taken a (x ∷ xs) c e = grind arith

pub taking_is_finished : (a : Arguments) (c : Code) → Err c ≡ taken_from a → is_unfinished_code c ≡ false
unfolding taken_from
taking_is_finished a c e = levels_taken a a.outer c (sym e)
