-- What the rules of the arguments come to.
use Rattle.std.specs.Prelude.{◌≡◌, ◌<◌, [], ◌∷◌, length, replicate, Ok, Err, ℤ, negsuc, pos, neg_ℤ, IsOk}
use Rattle.teco_core.specs.declared.code.Code.TheVariants.{Arg, Mrp, Pdo}
use Rattle.teco_core.specs.declared.number.Op.{Op}
use Rattle.teco_core.specs.declared.number.Op.TheVariants.{Plus, Minus}
use Rattle.teco_core.specs.declared.arguments.Taken.TheVariants.{One, Two}
use Rattle.teco_core.specs.Refusal.{◌>>=◌}
use Rattle.teco_core.specs.Number.{fitted, operation}
use Rattle.teco_core.specs.Arguments.{Arguments, no_arguments, taken_from}
use Rattle.teco_core.specs.Pieces.{number, sign, opening, closing, dividing, built, taken_after}

-- Operators work strictly from left to right, none before another.
abbrev pub LeftToRight : Type 0
LeftToRight = (a b c : ℤ) (o p : Op) → taken_after (number a ∷ sign o ∷ number b ∷ sign p ∷ number c ∷ [])
    ≡ (operation o a b >>= (λ n. operation p n c >>= (λ r. Ok (One r))))

-- What is in parentheses is worked out first.
abbrev pub ParenthesesFirst : Type 0
ParenthesesFirst = (a b c : ℤ) (o p : Op)
    → taken_after (number a ∷ sign o ∷ opening ∷ number b ∷ sign p ∷ number c ∷ closing ∷ [])
    ≡ (operation p b c >>= (λ n. operation o a n >>= (λ r. Ok (One r))))

-- A sign before a number is its sign; alone it is 1 or -1.
abbrev pub Signs : Type 0
Signs = ((n : ℤ) → taken_after (sign Minus ∷ number n ∷ []) ≡ (fitted (neg_ℤ n) >>= (λ r. Ok (One r))))
    × ((n : ℤ) → taken_after (sign Plus ∷ number n ∷ []) ≡ Ok (One n))
    × (taken_after (sign Plus ∷ []) ≡ Ok (One (pos 1)))
    × (taken_after (sign Minus ∷ []) ≡ Ok (One (negsuc 0)))

-- 16 parentheses may be open; one more is PDO.
abbrev pub Sixteen : Type 0
Sixteen = IsOk (built (replicate 16 opening) no_arguments)
    × (built (replicate 17 opening) no_arguments ≡ Err Pdo)

-- A comma makes a pair; a second one, or nothing after it, is ARG.
abbrev pub Commas : Type 0
Commas = ((m n : ℤ) → taken_after (number m ∷ dividing ∷ number n ∷ []) ≡ Ok (Two m n))
    × ((m n : ℤ) → built (number m ∷ dividing ∷ number n ∷ dividing ∷ []) no_arguments ≡ Err Arg)
    × ((m : ℤ) → taken_after (number m ∷ dividing ∷ []) ≡ Err Arg)

-- An operator that waits after a value is ARG when the arguments are taken, and an open parenthesis is MRP.
abbrev pub Unfinished : Type 0
Unfinished = ((n : ℤ) (o : Op) → taken_after (number n ∷ sign o ∷ []) ≡ Err Arg)
    × ((a : Arguments) → 0 < length a.outer → taken_from a ≡ Err Mrp)
