-- What the rules of the arguments come to.
use Rattle.std.proofs.Common.{◌≡◌, ◌<◌, List, [], ◌∷◌, length, Result, Ok, Err, refl, arith}
use Rattle.teco_core.specs.declared.code.Code.TheVariants.{Mrp}
use Rattle.teco_core.specs.declared.arguments.Expression.{Expression}
use Rattle.teco_core.specs.Refusal.{◌>>=◌}
use Rattle.teco_core.specs.Arguments.{Arguments, give, operate, open_level, close_level, comma, taken_from, taken_on}
use Rattle.teco_core.specs.Pieces.{built, taken_after}
use Rattle.teco_core.specs.ArgumentLaws.{LeftToRight, ParenthesesFirst, Signs, Sixteen, Commas, Unfinished}

one_after_another : {A B C E : Type 0} → (r : Result A E) (f : A → Result B E) (g : B → Result C E)
    → ((r >>= f) >>= g) ≡ (r >>= (λ x. f x >>= g))
one_after_another (Ok x) f g = refl
one_after_another (Err e) f g = refl

pub left_to_right : LeftToRight
unfolding give operate taken_from built taken_after
left_to_right a b c o p = simp one_after_another

pub parentheses_first : ParenthesesFirst
unfolding give operate open_level close_level taken_from built taken_after
parentheses_first a b c o p = simp one_after_another

pub signs : Signs
unfolding give operate taken_from built taken_after
signs = (λ n. simp one_after_another, λ n. refl, refl, refl)

pub sixteen : Sixteen
unfolding open_level built
sixteen = (refl, refl)

pub commas : Commas
unfolding give comma taken_from built taken_after
commas = (λ m n. refl, λ m n. refl, λ m. refl)

still_open : (levels : List Expression) (a : Arguments) → 0 < length levels → taken_on levels a ≡ Err Mrp
still_open [] a some = absurd (omega arith)
still_open (e ∷ es) a some = refl

pub unfinished : Unfinished
unfolding give operate taken_from built taken_after
unfinished = (λ n o. refl, λ a some. still_open a.outer a some)
