-- Values that are given alone, and what Qq gives.
use Rattle.std.proofs.Common.{◌≡◌, ◌∙◌, ap, sym, refl, ℕ, ℤ, Option, None, Some, Result, Ok, Err}
use Rattle.teco_core.specs.declared.arguments.Expression.{Expression}
use Rattle.teco_core.specs.declared.arguments.Expression.TheVariants.{Nothing, Number, Operation, Signed}
use Rattle.teco_core.specs.declared.code.Code.{Code}
use Rattle.teco_core.specs.declared.profile.Profile.{Profile}
use Rattle.teco_core.specs.declared.profile.Profile.TheVariants.{Named, Wide}
use Rattle.teco_core.specs.Arguments.{Arguments, emptied, give, level_of, no_arguments, with_value}
use Rattle.teco_core.specs.Refusal.{◌>>=◌}
use Rattle.teco_core.specs.Register.{content}
use Rattle.teco_scan.specs.declared.command.Modifiers.{Modifiers}
use Rattle.teco_store.specs.State.{State}
use Rattle.teco_step.specs.Registers.{byte_asked, number_or_length, register_value, value_or_code}
use Rattle.teco_step.specs.Step.{alone, edits}
use Rattle.teco_step.specs.Values.{code_at}
use Rattle.teco_step.proofs.Acting.{then_not, then_ok}

-- what is given where nothing was
pub given_alone : (v : ℤ) (left : Arguments) → give v no_arguments ≡ Ok left → left ≡ alone v
unfolding give
given_alone v left e = cc

-- No byte is asked for where the level takes a value.
none_asked : (m : Modifiers) (p : Profile) (e : Expression) (v n : ℤ) → with_value e v ≡ Ok n → byte_asked m p (level_of e) ≡ None
none_asked m Named e v n is = refl
none_asked m Wide Nothing v n is = refl
none_asked m Wide (Number a) v n is = cc
none_asked m Wide (Signed s) v n is = refl
none_asked m Wide (Operation a o) v n is = refl

given_asks_none : (m : Modifiers) (p : Profile) (a left : Arguments) (v : ℤ) → give v a ≡ Ok left → byte_asked m p (level_of a.expression) ≡ None
unfolding give
given_asks_none m p a left v given = by (with_value a.expression v) refl given
  where
    by : (r : Result ℤ Code) → with_value a.expression v ≡ r → (r >>= (λ n. Ok (record a { expression = Number n }))) ≡ Ok left → byte_asked m p (level_of a.expression) ≡ None
    by (Ok n) is e = none_asked m p a.expression v n is
    by (Err c) is e = cc

-- the value of q
pub gives_value : (m : Modifiers) (q : ℕ) (v : ℤ) (s : State) (a left : Arguments) → v ≡ number_or_length m q s → give v a ≡ Ok left → register_value m q s a ≡ edits s left 0
gives_value m q v s a left is given =
    ap (λ o. value_or_code m q o s a) (given_asks_none m s.profile a left v given) ∙ then_ok _ left _ _ (sym (ap (λ v. give v a) is) ∙ given) refl

-- the code of a byte
pub gives_byte : (m : Modifiers) (q : ℕ) (n v : ℤ) (s : State) (a left : Arguments) → Some n ≡ byte_asked m s.profile (level_of a.expression) → v ≡ code_at (content s.registers q).text n
    → give v (emptied a) ≡ Ok left → register_value m q s a ≡ edits s left 0
gives_byte m q n v s a left asked is given =
    ap (λ o. value_or_code m q o s a) (sym asked) ∙ then_ok _ left _ _ (sym (ap (λ v. give v (emptied a)) is) ∙ given) refl

-- nothing
pub gives_nothing : (m : Modifiers) (q : ℕ) (c : Code) (s : State) (a : Arguments) → None ≡ byte_asked m s.profile (level_of a.expression) → give (number_or_length m q s) a ≡ Err c
    → register_value m q s a ≡ Err c
gives_nothing m q c s a asked given = ap (λ o. value_or_code m q o s a) (sym asked) ∙ then_not _ _ c given
