-- The levels of the arguments, kept outermost first and seen innermost first.
use Rattle.std.proofs.Common.{◌≡◌, ◌∙◌, ℕ, ◌+◌, ◌-◌, ◌<◌, ◌≤◌, List, ◌∷◌, length, take, reverse, get_or, Option, Ok, Err, ℤ, ap, arith}
use Rattle.std.proofs.lemmas.List.{take_more, reverse-append}
use Rattle.teco_core.specs.declared.code.Code.{Code}
use Rattle.teco_core.specs.declared.arguments.Expression.{Expression}
use Rattle.teco_core.specs.declared.arguments.Expression.TheVariants.{Nothing, Number}
use Rattle.teco_core.specs.Refusal.{◌>>=◌}
use Rattle.teco_core.specs.Arguments.{Arguments, with_value, give, close_level}

-- The level opened last comes first.
pub innermost : (levels : List Expression) (depth : ℕ) → 0 < depth → depth ≤ length levels
    → reverse (take depth levels) ≡ get_or levels (depth - 1) Nothing ∷ reverse (take (depth - 1) levels)
innermost levels depth some room =
    let back : depth ≡ depth - 1 + 1 = omega arith in
    let last = take_more levels (depth - 1) Nothing (omega arith) in
    ap reverse (ap (λ n. take n levels) back ∙ last) ∙ reverse-append (take (depth - 1) levels) _

-- A level closes into the one opened last before it.
module _ (first : Option ℤ) (levels : List Expression) (depth : ℕ) (e : Expression) (v : ℤ) where
  abbrev Before : Arguments
  Before = record { first = first; expression = e; outer = reverse (take depth levels) }

  abbrev After : ℤ → Arguments
  After n = record { first = first; expression = Number n; outer = reverse (take (depth - 1) levels) }

  closes : e ≡ Number v → 0 < depth → depth ≤ length levels
      → close_level Before ≡ (with_value (get_or levels (depth - 1) Nothing) v >>= (λ n. Ok (After n)))
  unfolding close_level give
  closes is some room = rw (is, innermost levels depth some room)

  pub closes-ok : (n : ℤ) → e ≡ Number v → 0 < depth → depth ≤ length levels
      → with_value (get_or levels (depth - 1) Nothing) v ≡ Ok n → close_level Before ≡ Ok (After n)
  closes-ok n is some room gives = closes is some room ∙ ap (λ r. r >>= (λ n. Ok (After n))) gives

  pub closes-err : (code : Code) → e ≡ Number v → 0 < depth → depth ≤ length levels
      → with_value (get_or levels (depth - 1) Nothing) v ≡ Err code → close_level Before ≡ Err code
  closes-err code is some room gives = closes is some room ∙ ap (λ r. r >>= (λ n. Ok (After n))) gives
