-- Worked rows: what is typed, and what a command takes after it. They guard the definitions against later edits.
use Rattle.std.proofs.Common.{◌≡◌, ◌-◌, ◌^◌, List, [], ◌∷◌, map, replicate, Option, Some, None, Result, Ok, Err, ℕ, ℤ, pos, negsuc, refl}
use Rattle.std.specs.Prelude.{codes}
use Rattle.teco_core.specs.declared.code.Code.{Code}
use Rattle.teco_core.specs.declared.code.Code.TheVariants.{Arg, Dvz, Mrp, Ovf, Pdo}
use Rattle.teco_core.specs.declared.number.Op.TheVariants.{Plus, Minus, Times, Over, And, Or}
use Rattle.teco_core.specs.declared.arguments.Taken.{Taken}
use Rattle.teco_core.specs.declared.arguments.Taken.TheVariants as taken
use Rattle.teco_core.specs.Refusal.{◌>>=◌}
use Rattle.teco_core.specs.Number.{decimal_value, digits_value}
use Rattle.teco_core.specs.Arguments.{no_arguments, give, give_pair, operate, open_level, close_level, comma, taken_from}
use Rattle.teco_core.specs.Pieces.{Piece, number, sign, opening, closing, dividing, built, taken_after}
use Rattle.teco_core.specs.Register.{register_of}

-- a number, and its range
abbrev n : ℕ → Piece
n k = number (pos k)

abbrev highest : ℕ
highest = 2 ^ 31 - 1

-- what is typed, and what a command takes
abbrev Row : Type 0
Row = List Piece × Result Taken Code

abbrev rows : List Row
rows =
    (n 2 ∷ sign Plus ∷ n 3 ∷ sign Times ∷ n 4 ∷ [], Ok (taken.One (pos 20))) ∷  -- 2+3*4
    (n 2 ∷ sign Minus ∷ n 3 ∷ sign Minus ∷ n 4 ∷ [], Ok (taken.One (negsuc 4))) ∷  -- 2-3-4
    (n 2 ∷ sign Times ∷ opening ∷ n 3 ∷ sign Plus ∷ n 4 ∷ closing ∷ [], Ok (taken.One (pos 14))) ∷  -- 2*(3+4)
    (opening ∷ opening ∷ n 7 ∷ closing ∷ closing ∷ [], Ok (taken.One (pos 7))) ∷  -- ((7))
    (n highest ∷ sign Plus ∷ n 1 ∷ [], Err Ovf) ∷  -- 2147483647+1
    (sign Minus ∷ n highest ∷ sign Minus ∷ n 1 ∷ [], Ok (taken.One (negsuc highest))) ∷  -- -2147483647-1
    (sign Minus ∷ n highest ∷ sign Minus ∷ n 2 ∷ [], Err Ovf) ∷  -- -2147483647-2
    (n 65536 ∷ sign Times ∷ n 65536 ∷ [], Err Ovf) ∷  -- 65536*65536
    (n 7 ∷ sign Over ∷ n 2 ∷ [], Ok (taken.One (pos 3))) ∷  -- 7/2
    (sign Minus ∷ n 7 ∷ sign Over ∷ n 2 ∷ [], Ok (taken.One (negsuc 2))) ∷  -- -7/2
    (n 7 ∷ sign Over ∷ opening ∷ n 0 ∷ sign Minus ∷ n 2 ∷ closing ∷ [], Ok (taken.One (negsuc 2))) ∷  -- 7/(0-2)
    (opening ∷ sign Minus ∷ n highest ∷ sign Minus ∷ n 1 ∷ closing ∷ sign Over ∷ opening ∷ n 0 ∷ sign Minus ∷ n 1 ∷ closing ∷ [], Err Ovf) ∷  -- (-2147483647-1)/(0-1)
    (sign Minus ∷ opening ∷ sign Minus ∷ n highest ∷ sign Minus ∷ n 1 ∷ closing ∷ [], Err Ovf) ∷  -- -(-2147483647-1)
    (n 1 ∷ sign Over ∷ n 0 ∷ [], Err Dvz) ∷  -- 1/0
    (sign Minus ∷ n 1 ∷ sign And ∷ n 5 ∷ [], Ok (taken.One (pos 5))) ∷  -- -1&5
    (sign Minus ∷ n 8 ∷ sign Or ∷ n 3 ∷ [], Ok (taken.One (negsuc 4))) ∷  -- -8#3
    (n 5 ∷ sign Minus ∷ [], Err Arg) ∷  -- 5-
    (sign Minus ∷ [], Ok (taken.One (negsuc 0))) ∷  -- -
    (sign Plus ∷ [], Ok (taken.One (pos 1))) ∷  -- +
    (sign Plus ∷ n 5 ∷ [], Ok (taken.One (pos 5))) ∷  -- +5
    (sign Times ∷ n 5 ∷ [], Err Arg) ∷  -- *5
    (sign Minus ∷ sign Minus ∷ n 5 ∷ [], Err Arg) ∷  -- --5
    (n 1 ∷ sign Plus ∷ sign Minus ∷ n 5 ∷ [], Err Arg) ∷  -- 1+-5
    (n 4 ∷ n 2 ∷ [], Err Arg) ∷  -- 4 2
    (n 4 ∷ opening ∷ [], Err Arg) ∷  -- 4(
    (opening ∷ closing ∷ [], Err Arg) ∷  -- ()
    (opening ∷ sign Minus ∷ closing ∷ [], Err Arg) ∷  -- (-)
    (n 4 ∷ closing ∷ [], Err Arg) ∷  -- 4)
    (opening ∷ n 3 ∷ [], Err Mrp) ∷  -- (3
    (sign Minus ∷ opening ∷ n 3 ∷ sign Plus ∷ n 4 ∷ closing ∷ [], Ok (taken.One (negsuc 6))) ∷  -- -(3+4)
    ([], Ok taken.None) ∷  -- nothing
    (n 1 ∷ dividing ∷ n 2 ∷ [], Ok (taken.Two (pos 1) (pos 2))) ∷  -- 1,2
    (n 1 ∷ sign Plus ∷ n 2 ∷ dividing ∷ n 3 ∷ sign Times ∷ n 4 ∷ [], Ok (taken.Two (pos 3) (pos 12))) ∷  -- 1+2,3*4
    (n 1 ∷ dividing ∷ sign Minus ∷ [], Ok (taken.Two (pos 1) (negsuc 0))) ∷  -- 1,-
    (n 1 ∷ dividing ∷ [], Err Arg) ∷  -- 1,
    (dividing ∷ n 2 ∷ [], Err Arg) ∷  -- ,2
    (sign Minus ∷ dividing ∷ n 2 ∷ [], Err Arg) ∷  -- -,2
    (n 1 ∷ dividing ∷ n 2 ∷ dividing ∷ n 3 ∷ [], Err Arg) ∷  -- 1,2,3
    (opening ∷ n 1 ∷ dividing ∷ n 2 ∷ closing ∷ [], Err Arg) ∷  -- (1,2)
    (replicate 16 opening, Err Mrp) ∷  -- 16 parentheses
    (replicate 17 opening, Err Pdo) ∷  -- 17 parentheses
    []

rows_hold : map (λ row. taken_after row.0) rows ≡ map (λ row. row.1) rows
unfolding give operate open_level close_level comma taken_from built taken_after
rows_hold = refl

-- H, of a text of 12 bytes: with no arguments before it, and after a value
whole_text : (give_pair 12 no_arguments >>= taken_from) ≡ Ok (taken.Two (pos 0) (pos 12))
unfolding give_pair taken_from
whole_text = refl

whole_text_after_a_value : (built (n 1 ∷ []) no_arguments >>= give_pair 12) ≡ Err Arg
unfolding give give_pair built
whole_text_after_a_value = refl

-- runs of digits, and their values
abbrev values : List (List ℕ × Result ℤ Code)
values =
    (codes "007", Ok (pos 7)) ∷
    (codes "2147483647", Ok (pos highest)) ∷
    (codes "2147483648", Err Ovf) ∷
    (codes "99999999999999999999999999", Err Ovf) ∷
    []

values_hold : map (λ row. decimal_value row.0) values ≡ map (λ row. row.1) values
unfolding digits_value
values_hold = refl

-- A value is made before it is given: 1 99999999999
made_before_given : (built (n 1 ∷ []) no_arguments >>= (λ a. decimal_value (codes "99999999999") >>= (λ v. give v a))) ≡ Err Ovf
unfolding digits_value give built
made_before_given = refl

-- names of registers, and bytes beside them that name none
abbrev names : List (ℕ × Option ℕ)
names =
    (65, Some 0) ∷ (90, Some 25) ∷ (97, Some 0) ∷ (122, Some 25) ∷ (48, Some 26) ∷ (57, Some 35) ∷
    (47, None) ∷ (58, None) ∷ (64, None) ∷ (91, None) ∷ (96, None) ∷ (123, None) ∷ []

names_hold : map (λ row. register_of row.0) names ≡ map (λ row. row.1) names
names_hold = refl
