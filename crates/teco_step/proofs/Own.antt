-- The codes by which steps are refused as they mean: none of them says that a step was begun and not done.
use Rattle.std.proofs.Common.{◌≡◌, ℕ, zero, suc, List, [], ◌∷◌, Result, Ok, Err, Option, Some, None, ℤ, pos, negsuc, neg_ℤ, ◌+ℤ◌, ◌-ℤ◌, ◌*ℤ◌, Bool, true, false, cond, refl}
use Rattle.std.specs.Prelude.{int_div}
use Rattle.teco_core.specs.declared.code.Code.{Code}
use Rattle.teco_core.specs.declared.code.Code.TheVariants as code
use Rattle.teco_core.specs.declared.number.Op.{Op}
use Rattle.teco_core.specs.declared.number.Op.TheVariants as op
use Rattle.teco_core.specs.declared.arguments.Sign.TheVariants.{Positive, Negative}
use Rattle.teco_core.specs.declared.arguments.Expression.{Expression}
use Rattle.teco_core.specs.declared.arguments.Expression.TheVariants.{Nothing, Number, Signed, Operation}
use Rattle.teco_core.specs.Refusal.{◌>>=◌}
use Rattle.teco_core.specs.Number.{fitted, quotient, operation, decimal_value, digits_value}
use Rattle.teco_core.specs.Arguments.{Arguments, with_value, give, with_operator, operate, opened_after, open_level, closed_into, close_level, divided, comma, ground_value, with_first, taken_on, taken_from, paired, give_pair}
use Rattle.teco_scan.specs.declared.command.Arithmetic.{Arithmetic}
use Rattle.teco_scan.specs.declared.command.Arithmetic.TheVariants as arithmetic
use Rattle.teco_step.specs.Ending.{is_unfinished_code}
use Rattle.teco_step.specs.Values.{built}

-- where it is refused, the code is one of its own
abbrev pub IsOwn : {A : Type 0} → Result A Code → Type 0
IsOwn (Ok x) = Unit {0}
IsOwn (Err c) = is_unfinished_code c ≡ false

own_code : {A : Type 0} (r : Result A Code) (c : Code) → IsOwn r → r ≡ Err c → is_unfinished_code c ≡ false
own_code (Ok x) c own e = cc
own_code (Err d) c own e = cc

-- one thing after another
pub own_then : {A B : Type 0} (r : Result A Code) (f : A → Result B Code) → IsOwn r → ((x : A) → IsOwn (f x)) → IsOwn (r >>= f)
own_then (Ok x) f own owns = owns x
own_then (Err c) f own owns = own

own_if : {A : Type 0} (b : Bool) (x y : Result A Code) → IsOwn x → IsOwn y → IsOwn (cond b x y)
own_if true x y p q = p
own_if false x y p q = q

-- numbers
own_fitted : (n : ℤ) → IsOwn (fitted n)
own_fitted n = own_if _ (Ok n) (Err code.Ovf) tt refl

own_quotient : (a b : ℤ) → IsOwn (quotient a b)
own_quotient a (pos zero) = refl
own_quotient a (pos (suc n)) = own_fitted (int_div a (pos (suc n)))
own_quotient a (negsuc n) = own_fitted (int_div a (negsuc n))

own_operation : (o : Op) (a b : ℤ) → IsOwn (operation o a b)
own_operation op.Plus a b = own_fitted (a +ℤ b)
own_operation op.Minus a b = own_fitted (a -ℤ b)
own_operation op.Times a b = own_fitted (a *ℤ b)
own_operation op.Over a b = own_quotient a b
own_operation op.And a b = tt
own_operation op.Or a b = tt

-- arguments
own_with_value : (e : Expression) (v : ℤ) → IsOwn (with_value e v)
own_with_value Nothing v = tt
own_with_value (Signed Positive) v = tt
own_with_value (Signed Negative) v = own_fitted (neg_ℤ v)
own_with_value (Operation a o) v = own_operation o a v
own_with_value (Number a) v = refl

own_give : (v : ℤ) (a : Arguments) → IsOwn (give v a)
unfolding give
own_give v a = own_then (with_value a.expression v) _ (own_with_value a.expression v) (λ n. tt)

own_with_operator : (o : Op) (e : Expression) → IsOwn (with_operator o e)
own_with_operator o (Number v) = tt
own_with_operator op.Plus Nothing = tt
own_with_operator op.Minus Nothing = tt
own_with_operator op.Times Nothing = refl
own_with_operator op.Over Nothing = refl
own_with_operator op.And Nothing = refl
own_with_operator op.Or Nothing = refl
own_with_operator o (Signed s) = refl
own_with_operator o (Operation v w) = refl

own_operate : (o : Op) (a : Arguments) → IsOwn (operate o a)
unfolding operate
own_operate o a = own_then (with_operator o a.expression) _ (own_with_operator o a.expression) (λ e. tt)

own_ground : (e : Expression) → IsOwn (ground_value e)
own_ground Nothing = tt
own_ground (Number v) = tt
own_ground (Signed s) = tt
own_ground (Operation v o) = refl

own_with_first : (m n : Option ℤ) → IsOwn (with_first m n)
own_with_first None None = tt
own_with_first None (Some n) = tt
own_with_first (Some m) (Some n) = tt
own_with_first (Some m) None = refl

own_taken_on : (es : List Expression) (a : Arguments) → IsOwn (taken_on es a)
own_taken_on [] a = own_then (ground_value a.expression) _ (own_ground a.expression) (λ v. own_with_first a.first v)
own_taken_on (e ∷ es) a = refl

is_own_taken : (a : Arguments) → IsOwn (taken_from a)
unfolding taken_from
is_own_taken a = own_taken_on a.outer a

-- what is taken or given is refused by a code of the language
pub own_taken : (a : Arguments) (c : Code) → taken_from a ≡ Err c → is_unfinished_code c ≡ false
own_taken a c e = own_code (taken_from a) c (is_own_taken a) e

pub own_given_value : (v : ℤ) (a : Arguments) (c : Code) → give v a ≡ Err c → is_unfinished_code c ≡ false
own_given_value v a c e = own_code (give v a) c (own_give v a) e

own_operator : (o : Op) (a : Arguments) (c : Code) → operate o a ≡ Err c → is_unfinished_code c ≡ false
own_operator o a c e = own_code (operate o a) c (own_operate o a) e

pub own_decimal : (ds : List ℕ) (c : Code) → decimal_value ds ≡ Err c → is_unfinished_code c ≡ false
own_decimal ds c e = own_code (decimal_value ds) c (own_fitted (pos (digits_value 0 ds))) e

pub own_sum : (m n : ℤ) (c : Code) → fitted (m +ℤ n) ≡ Err c → is_unfinished_code c ≡ false
own_sum m n c e = own_code (fitted (m +ℤ n)) c (own_fitted (m +ℤ n)) e

own_paired : (z : ℕ) (first : Option ℤ) (es : List Expression) (e : Expression) → IsOwn (paired z first es e)
own_paired z None [] Nothing = tt
own_paired z _ _ _ = refl

own_pair : (z : ℕ) (a : Arguments) (c : Code) → give_pair z a ≡ Err c → is_unfinished_code c ≡ false
unfolding give_pair
own_pair z a c e = own_code (paired z a.first a.outer a.expression) c (own_paired z a.first a.outer a.expression) e

own_opened : (e : Expression) (a : Arguments) → IsOwn (opened_after e a)
own_opened (Number v) a = refl
own_opened Nothing a = own_if _ (Err code.Pdo) (Ok _) refl tt
own_opened (Signed s) a = own_if _ (Err code.Pdo) (Ok _) refl tt
own_opened (Operation v o) a = own_if _ (Err code.Pdo) (Ok _) refl tt

own_opening : (a : Arguments) (c : Code) → open_level a ≡ Err c → is_unfinished_code c ≡ false
unfolding open_level
own_opening a c e = own_code (opened_after a.expression a) c (own_opened a.expression a) e

own_closed : (e : Expression) (es : List Expression) (first : Option ℤ) → IsOwn (closed_into e es first)
own_closed (Number v) (e ∷ es) first = own_give v _
own_closed (Number v) [] first = refl
own_closed Nothing es first = refl
own_closed (Signed s) es first = refl
own_closed (Operation v o) es first = refl

own_closing : (a : Arguments) (c : Code) → close_level a ≡ Err c → is_unfinished_code c ≡ false
unfolding close_level
own_closing a c e = own_code (closed_into a.expression a.outer a.first) c (own_closed a.expression a.outer a.first) e

own_divided : (first : Option ℤ) (es : List Expression) (e : Expression) → IsOwn (divided first es e)
own_divided None [] (Number v) = tt
own_divided _ _ _ = refl

own_comma : (a : Arguments) (c : Code) → comma a ≡ Err c → is_unfinished_code c ≡ false
unfolding comma
own_comma a c e = own_code (divided a.first a.outer a.expression) c (own_divided a.first a.outer a.expression) e

-- what builds arguments
pub own_built : (b : Arithmetic) (z : ℕ) (a : Arguments) (c : Code) → built b z a ≡ Err c → is_unfinished_code c ≡ false
own_built arithmetic.Whole z a c e = own_pair z a c e
own_built (arithmetic.Operator o) z a c e = own_operator o a c e
own_built arithmetic.Open z a c e = own_opening a c e
own_built arithmetic.Close z a c e = own_closing a c e
own_built arithmetic.Comma z a c e = own_comma a c e
