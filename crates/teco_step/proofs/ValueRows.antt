-- Steps of what gives a value or builds arguments, one row each, by computing.
use Rattle.std.proofs.Common.{◌≡◌, ℕ, ◌^◌, ◌-◌, [], ◌∷◌, replicate, Some, pos, negsuc, true, refl}
use Rattle.std.specs.Prelude.{codes}
use Rattle.teco_core.specs.declared.code.Code.TheVariants.{Arg, Ovf, Pdo}
use Rattle.teco_core.specs.declared.number.Op.TheVariants.{Plus, Times, And, Or}
use Rattle.teco_core.specs.declared.arguments.Expression.TheVariants.{Nothing, Number, Operation, Signed}
use Rattle.teco_core.specs.declared.arguments.Sign.TheVariants.{Negative}
use Rattle.teco_core.specs.Arguments.{Arguments, no_arguments, give, operate, open_level, close_level, comma}
use Rattle.teco_core.specs.Number.{digits_value}
use Rattle.teco_scan.specs.declared.command.Bare.TheVariants as bare
use Rattle.teco_scan.specs.declared.command.Arithmetic.TheVariants.{Operator, Open, Close, Comma}
use Rattle.teco_scan.specs.declared.command.LevelCommand.TheVariants.{Append}
use Rattle.teco_scan.specs.declared.command.Quantity.TheVariants as quantity
use Rattle.teco_scan.specs.Scan as token
use Rattle.teco_store.specs.State.{beginning}
use Rattle.teco_step.specs.Effect.{effect}
use Rattle.teco_step.proofs.Rows.{holds, value, does, goes, refused, pair, opened, waits, minus}

-- so many parentheses are open
abbrev within : ℕ → Arguments
within n = record no_arguments { outer = replicate n Nothing }

row_open : does (token.bare (bare.Arithmetic Open)) (holds (codes "abc") 1) no_arguments ≡ goes (holds (codes "abc") 1) opened [] 0
unfolding effect give operate open_level close_level comma digits_value
row_open = refl

row_open_after_an_operator : does (token.bare (bare.Arithmetic Open)) (holds (codes "abc") 1) (waits (pos 2)) ≡ goes (holds (codes "abc") 1) (record no_arguments { outer = Operation (pos 2) Plus ∷ [] }) [] 0
unfolding effect give operate open_level close_level comma digits_value
row_open_after_an_operator = refl

row_open_after_a_sign : does (token.bare (bare.Arithmetic Open)) (holds (codes "abc") 1) minus ≡ goes (holds (codes "abc") 1) (record no_arguments { outer = Signed Negative ∷ [] }) [] 0
unfolding effect give operate open_level close_level comma digits_value
row_open_after_a_sign = refl

row_open_after_a_first_value : does (token.bare (bare.Arithmetic Open)) (holds (codes "abc") 1) (record no_arguments { first = Some (pos 1) }) ≡ goes (holds (codes "abc") 1) (record opened { first = Some (pos 1) }) [] 0
unfolding effect give operate open_level close_level comma digits_value
row_open_after_a_first_value = refl

row_open_after_a_value : does (token.bare (bare.Arithmetic Open)) (holds (codes "abc") 1) (value (pos 2)) ≡ refused (holds (codes "abc") 1) (value (pos 2)) Arg
unfolding effect give operate open_level close_level comma digits_value
row_open_after_a_value = refl

row_open_the_sixteenth : does (token.bare (bare.Arithmetic Open)) (holds (codes "abc") 1) (within 15) ≡ goes (holds (codes "abc") 1) (within 16) [] 0
unfolding effect give operate open_level close_level comma digits_value
row_open_the_sixteenth = refl

row_open_the_seventeenth : does (token.bare (bare.Arithmetic Open)) (holds (codes "abc") 1) (within 16) ≡ refused (holds (codes "abc") 1) (within 16) Pdo
unfolding effect give operate open_level close_level comma digits_value
row_open_the_seventeenth = refl

row_close : does (token.bare (bare.Arithmetic Close)) (holds (codes "abc") 1) (record opened { expression = Number (pos 7) }) ≡ goes (holds (codes "abc") 1) (value (pos 7)) [] 0
unfolding effect give operate open_level close_level comma digits_value
row_close = refl

row_close_into_an_operator : does (token.bare (bare.Arithmetic Close)) (holds (codes "abc") 1) (record (value (pos 5)) { outer = Operation (pos 2) Times ∷ [] }) ≡ goes (holds (codes "abc") 1) (value (pos 10)) [] 0
unfolding effect give operate open_level close_level comma digits_value
row_close_into_an_operator = refl

row_close_into_a_sign : does (token.bare (bare.Arithmetic Close)) (holds (codes "abc") 1) (record (value (pos 5)) { outer = Signed Negative ∷ [] }) ≡ goes (holds (codes "abc") 1) (value (negsuc 4)) [] 0
unfolding effect give operate open_level close_level comma digits_value
row_close_into_a_sign = refl

row_close_nothing : does (token.bare (bare.Arithmetic Close)) (holds (codes "abc") 1) opened ≡ refused (holds (codes "abc") 1) opened Arg
unfolding effect give operate open_level close_level comma digits_value
row_close_nothing = refl

row_close_a_sign : does (token.bare (bare.Arithmetic Close)) (holds (codes "abc") 1) (record minus { outer = Nothing ∷ [] }) ≡ refused (holds (codes "abc") 1) (record minus { outer = Nothing ∷ [] }) Arg
unfolding effect give operate open_level close_level comma digits_value
row_close_a_sign = refl

row_close_an_operator : does (token.bare (bare.Arithmetic Close)) (holds (codes "abc") 1) (record (waits (pos 2)) { outer = Nothing ∷ [] }) ≡ refused (holds (codes "abc") 1) (record (waits (pos 2)) { outer = Nothing ∷ [] }) Arg
unfolding effect give operate open_level close_level comma digits_value
row_close_an_operator = refl

row_close_on_the_ground : does (token.bare (bare.Arithmetic Close)) (holds (codes "abc") 1) (value (pos 2)) ≡ refused (holds (codes "abc") 1) (value (pos 2)) Arg
unfolding effect give operate open_level close_level comma digits_value
row_close_on_the_ground = refl

row_close_past_the_range : does (token.bare (bare.Arithmetic Close)) (holds (codes "abc") 1) (record (value (pos 1)) { outer = Operation (pos (2 ^ 31 - 1)) Plus ∷ [] }) ≡ refused (holds (codes "abc") 1) (record (value (pos 1)) { outer = Operation (pos (2 ^ 31 - 1)) Plus ∷ [] }) Ovf
unfolding effect give operate open_level close_level comma digits_value
row_close_past_the_range = refl

row_comma : does (token.bare (bare.Arithmetic Comma)) (holds (codes "abc") 1) (value (pos 2)) ≡ goes (holds (codes "abc") 1) (record no_arguments { first = Some (pos 2) }) [] 0
unfolding effect give operate open_level close_level comma digits_value
row_comma = refl

row_comma_after_nothing : does (token.bare (bare.Arithmetic Comma)) (holds (codes "abc") 1) no_arguments ≡ refused (holds (codes "abc") 1) no_arguments Arg
unfolding effect give operate open_level close_level comma digits_value
row_comma_after_nothing = refl

row_comma_after_a_sign : does (token.bare (bare.Arithmetic Comma)) (holds (codes "abc") 1) minus ≡ refused (holds (codes "abc") 1) minus Arg
unfolding effect give operate open_level close_level comma digits_value
row_comma_after_a_sign = refl

row_comma_after_an_operator : does (token.bare (bare.Arithmetic Comma)) (holds (codes "abc") 1) (waits (pos 2)) ≡ refused (holds (codes "abc") 1) (waits (pos 2)) Arg
unfolding effect give operate open_level close_level comma digits_value
row_comma_after_an_operator = refl

row_comma_after_a_pair : does (token.bare (bare.Arithmetic Comma)) (holds (codes "abc") 1) (pair (pos 1) (pos 2)) ≡ refused (holds (codes "abc") 1) (pair (pos 1) (pos 2)) Arg
unfolding effect give operate open_level close_level comma digits_value
row_comma_after_a_pair = refl

row_comma_in_parentheses : does (token.bare (bare.Arithmetic Comma)) (holds (codes "abc") 1) (record (value (pos 2)) { outer = Nothing ∷ [] }) ≡ refused (holds (codes "abc") 1) (record (value (pos 2)) { outer = Nothing ∷ [] }) Arg
unfolding effect give operate open_level close_level comma digits_value
row_comma_in_parentheses = refl

row_and : does (token.digits (codes "10")) (holds (codes "abc") 1) (record no_arguments { expression = Operation (pos 12) And }) ≡ goes (holds (codes "abc") 1) (value (pos 8)) [] 0
unfolding effect give operate open_level close_level comma digits_value
row_and = refl

row_or : does (token.digits (codes "10")) (holds (codes "abc") 1) (record no_arguments { expression = Operation (negsuc 15) Or }) ≡ goes (holds (codes "abc") 1) (value (negsuc 5)) [] 0
unfolding effect give operate open_level close_level comma digits_value
row_or = refl

row_and_waits : does (token.bare (bare.Arithmetic (Operator And))) (holds (codes "abc") 1) (value (pos 12)) ≡ goes (holds (codes "abc") 1) (record no_arguments { expression = Operation (pos 12) And }) [] 0
unfolding effect give operate open_level close_level comma digits_value
row_and_waits = refl

row_or_after_nothing : does (token.bare (bare.Arithmetic (Operator Or))) (holds (codes "abc") 1) no_arguments ≡ refused (holds (codes "abc") 1) no_arguments Arg
unfolding effect give operate open_level close_level comma digits_value
row_or_after_nothing = refl

row_no_form_feed : does (token.bare (bare.Quantity quantity.FormFeed)) (holds (codes "abc") 1) no_arguments ≡ goes (holds (codes "abc") 1) (value (pos 0)) [] 0
unfolding effect give operate open_level close_level comma digits_value
row_no_form_feed = refl

row_form_feed : does (token.bare (bare.Quantity quantity.FormFeed)) (record (holds (codes "abc") 1) { form_feed = true }) (waits (pos 3)) ≡ goes (record (holds (codes "abc") 1) { form_feed = true }) (value (pos 2)) [] 0
unfolding effect give operate open_level close_level comma digits_value
row_form_feed = refl

row_input_left : does (token.bare (bare.Quantity quantity.InputEnd)) (beginning (codes "a")) no_arguments ≡ goes (beginning (codes "a")) (value (pos 0)) [] 0
unfolding effect give operate open_level close_level comma digits_value
row_input_left = refl

row_no_input_left : does (token.bare (bare.Quantity quantity.InputEnd)) (record (beginning (codes "a")) { place = 1 }) no_arguments ≡ goes (record (beginning (codes "a")) { place = 1 }) (value (negsuc 0)) [] 0
unfolding effect give operate open_level close_level comma digits_value
row_no_input_left = refl

row_no_input : does (token.bare (bare.Quantity quantity.InputEnd)) (holds (codes "abc") 1) minus ≡ goes (holds (codes "abc") 1) (value (pos 1)) [] 0
unfolding effect give operate open_level close_level comma digits_value
row_no_input = refl

row_no_input_after_a_value : does (token.bare (bare.Quantity quantity.InputEnd)) (holds (codes "abc") 1) (value (pos 1)) ≡ refused (holds (codes "abc") 1) (value (pos 1)) Arg
unfolding effect give operate open_level close_level comma digits_value
row_no_input_after_a_value = refl

row_byte : does (token.byte 255) (holds (codes "abc") 1) (waits (pos 1)) ≡ goes (holds (codes "abc") 1) (value (pos 256)) [] 0
unfolding effect give operate open_level close_level comma digits_value
row_byte = refl

row_byte_after_a_value : does (token.byte 65) (holds (codes "abc") 1) (value (pos 1)) ≡ refused (holds (codes "abc") 1) (value (pos 1)) Arg
unfolding effect give operate open_level close_level comma digits_value
row_byte_after_a_value = refl

row_code : does (token.bare (bare.Level Append)) (holds (codes "abc") 1) (value (pos 0)) ≡ goes (holds (codes "abc") 1) (value (pos 98)) [] 0
unfolding effect give operate open_level close_level comma digits_value
row_code = refl

row_code_before : does (token.bare (bare.Level Append)) (holds (codes "abc") 1) minus ≡ goes (holds (codes "abc") 1) (value (pos 97)) [] 0
unfolding effect give operate open_level close_level comma digits_value
row_code_before = refl

row_code_after : does (token.bare (bare.Level Append)) (holds (codes "abc") 1) (value (pos 1)) ≡ goes (holds (codes "abc") 1) (value (pos 99)) [] 0
unfolding effect give operate open_level close_level comma digits_value
row_code_after = refl

row_code_past_the_end : does (token.bare (bare.Level Append)) (holds (codes "abc") 1) (value (pos 2)) ≡ goes (holds (codes "abc") 1) (value (negsuc 0)) [] 0
unfolding effect give operate open_level close_level comma digits_value
row_code_past_the_end = refl

row_code_before_0 : does (token.bare (bare.Level Append)) (holds (codes "abc") 1) (value (negsuc 1)) ≡ goes (holds (codes "abc") 1) (value (negsuc 0)) [] 0
unfolding effect give operate open_level close_level comma digits_value
row_code_before_0 = refl

row_code_keeps_a_first_value : does (token.bare (bare.Level Append)) (holds (codes "abc") 1) (pair (pos 1) (pos 0)) ≡ goes (holds (codes "abc") 1) (pair (pos 1) (pos 98)) [] 0
unfolding effect give operate open_level close_level comma digits_value
row_code_keeps_a_first_value = refl

row_code_in_parentheses : does (token.bare (bare.Level Append)) (holds (codes "abc") 1) (record (value (pos 0)) { outer = Nothing ∷ [] }) ≡ goes (holds (codes "abc") 1) (record opened { expression = Number (pos 98) }) [] 0
unfolding effect give operate open_level close_level comma digits_value
row_code_in_parentheses = refl

row_code_after_an_operator : does (token.bare (bare.Level Append)) (holds (codes "abc") 1) (waits (pos 2)) ≡ refused (holds (codes "abc") 1) (waits (pos 2)) Arg
unfolding effect give operate open_level close_level comma digits_value
row_code_after_an_operator = refl
