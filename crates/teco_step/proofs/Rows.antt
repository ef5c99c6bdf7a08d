-- Steps and line places that compute, one row each, as a guard for the definitions.
use Rattle.std.proofs.Common.{◌≡◌, ℕ, ◌+◌, ◌^◌, ◌-◌, List, [], ◌∷◌, length, replicate, Some, None, Bool, ℤ, pos, negsuc, true, false, refl}
use Rattle.std.specs.Prelude.{codes}
use Rattle.std.specs.Fmt.{digits}
use Rattle.teco_core.specs.declared.code.Code.{Code}
use Rattle.teco_core.specs.declared.code.Code.TheVariants.{Arg, Big, Dvz, Iia, Mrp, Nae, Nau, Ovf, Pop, Sni}
use Rattle.teco_core.specs.declared.number.Op.TheVariants.{Over, Plus}
use Rattle.teco_core.specs.declared.arguments.Expression.TheVariants.{Nothing, Number, Operation, Signed}
use Rattle.teco_core.specs.declared.arguments.Sign.TheVariants.{Negative}
use Rattle.teco_core.specs.Arguments.{Arguments, no_arguments, give, operate, taken_from}
use Rattle.teco_core.specs.Number.{digits_value}
use Rattle.teco_core.specs.Register.{blank}
use Rattle.teco_scan.specs.declared.command.Bare.TheVariants as bare
use Rattle.teco_scan.specs.declared.command.Arithmetic.TheVariants.{Operator}
use Rattle.teco_scan.specs.declared.command.Quantity.TheVariants as quantity
use Rattle.teco_scan.specs.declared.command.Command.TheVariants as command
use Rattle.teco_scan.specs.declared.command.RegisterCommand.TheVariants as register_command
use Rattle.teco_scan.specs.declared.command.TextCommand.TheVariants.{Insert, Go}
use Rattle.teco_scan.specs.Scan.{Item, no_modifiers}
use Rattle.teco_scan.specs.Scan as token
use Rattle.teco_core.specs.declared.limits.TheConstants.{TEXT_LIMIT}
use Rattle.teco_store.specs.State.{State, beginning}
use Rattle.teco_step.specs.Effect.{effect}
use Rattle.teco_step.specs.Line.{line, line_ends_from}
use Rattle.teco_step.specs.declared.next.Setting.{Setting}
use Rattle.teco_step.specs.Step.{Step, End, on, leave, go, call, stop}

-- a LF b VT FF c: the line ends are at 1, 3 and 4
abbrev pub lines : List ℕ
lines = 97 ∷ 10 ∷ 98 ∷ 11 ∷ 12 ∷ 99 ∷ []

lines_are_at : (line lines 3 (pos 1) ≡ 4)
    × (line lines 3 (pos 2) ≡ 5)
    × (line lines 2 (pos 1) ≡ 4)
    × (line lines 5 (pos 1) ≡ 6)
    × (line lines 6 (pos 1) ≡ 6)
    × (line lines 0 (pos 3) ≡ 5)
    × (line lines 0 (pos 4) ≡ 6)
    × (line lines 3 (pos 0) ≡ 2)
    × (line lines 2 (pos 0) ≡ 2)
    × (line lines 4 (pos 0) ≡ 4)
    × (line lines 5 (negsuc 0) ≡ 4)
    × (line lines 5 (negsuc 1) ≡ 2)
    × (line lines 5 (negsuc 2) ≡ 0)
    × (line lines 1 (pos 0) ≡ 0)
    × (line lines 0 (negsuc 4) ≡ 0)
unfolding line_ends_from
lines_are_at = (refl, refl, refl, refl, refl, refl, refl, refl, refl, refl, refl, refl, refl, refl, refl)

abbrev pub alone : Setting
alone = record { modifiers = no_modifiers; work = None; inside = false; before = false }

abbrev pub holds : List ℕ → ℕ → State
holds text place = record (beginning []) { text = text; pointer = place }

abbrev pub value : ℤ → Arguments
value n = record no_arguments { expression = Number n }

abbrev pub does : Item → State → Arguments → Step
does i s a = effect i alone s a

-- it goes on with these
abbrev pub goes : State → Arguments → List ℕ → ℕ → Step
goes s a typed load = record { state = s; arguments = a; typed = typed; load = load; end = on }

abbrev pub refused : State → Arguments → Code → Step
refused s a c = record { state = s; arguments = a; typed = []; load = 0; end = stop c }

row_digits : does (token.digits (codes "042")) (holds (codes "abc") 1) (no_arguments) ≡ goes (holds (codes "abc") 1) (value (pos 42)) [] 0
unfolding effect give operate taken_from digits_value line_ends_from
row_digits = refl

row_digits_too_many : does (token.digits (codes "2147483648")) (holds (codes "abc") 1) (no_arguments) ≡ refused (holds (codes "abc") 1) no_arguments Ovf
unfolding effect give operate taken_from digits_value line_ends_from
row_digits_too_many = refl

row_value_after_value : does (token.digits (codes "1")) (holds (codes "abc") 1) (value (pos 2)) ≡ refused (holds (codes "abc") 1) (value (pos 2)) Arg
unfolding effect give operate taken_from digits_value line_ends_from
row_value_after_value = refl

row_beginning : does (token.bare (bare.Quantity quantity.Beginning)) (holds (codes "abc") 1) (no_arguments) ≡ goes (holds (codes "abc") 1) (value (pos 0)) [] 0
unfolding effect give operate taken_from digits_value line_ends_from
row_beginning = refl

row_end : does (token.bare (bare.Quantity quantity.End)) (holds (codes "abc") 1) (no_arguments) ≡ goes (holds (codes "abc") 1) (value (pos 3)) [] 0
unfolding effect give operate taken_from digits_value line_ends_from
row_end = refl

row_pointer : does (token.bare (bare.Quantity quantity.Pointer)) (holds (codes "abc") 1) (no_arguments) ≡ goes (holds (codes "abc") 1) (value (pos 1)) [] 0
unfolding effect give operate taken_from digits_value line_ends_from
row_pointer = refl

row_operator : does (token.bare (bare.Arithmetic (Operator Over))) (holds (codes "abc") 1) (value (negsuc 8)) ≡ goes (holds (codes "abc") 1) (record no_arguments { expression = Operation (negsuc 8) Over }) [] 0
unfolding effect give operate taken_from digits_value line_ends_from
row_operator = refl

row_quotient : does (token.digits (codes "2")) (holds (codes "abc") 1) (record no_arguments { expression = Operation (negsuc 8) Over }) ≡ goes (holds (codes "abc") 1) (value (negsuc 3)) [] 0
unfolding effect give operate taken_from digits_value line_ends_from
row_quotient = refl

row_by_zero : does (token.digits (codes "0")) (holds (codes "abc") 1) (record no_arguments { expression = Operation (negsuc 8) Over }) ≡ refused (holds (codes "abc") 1) (record no_arguments { expression = Operation (negsuc 8) Over }) Dvz
unfolding effect give operate taken_from digits_value line_ends_from
row_by_zero = refl

row_jump : does (token.bare (bare.Command command.Jump)) (holds (codes "abc") 1) (value (pos 3)) ≡ goes (holds (codes "abc") 3) no_arguments [] 0
unfolding effect give operate taken_from digits_value line_ends_from
row_jump = refl

row_jump_to_0 : does (token.bare (bare.Command command.Jump)) (holds (codes "abc") 1) (no_arguments) ≡ goes (holds (codes "abc") 0) no_arguments [] 0
unfolding effect give operate taken_from digits_value line_ends_from
row_jump_to_0 = refl

row_jump_past_the_end : does (token.bare (bare.Command command.Jump)) (holds (codes "abc") 1) (value (pos 5)) ≡ refused (holds (codes "abc") 1) (value (pos 5)) Pop
unfolding effect give operate taken_from digits_value line_ends_from
row_jump_past_the_end = refl

row_jump_before_0 : does (token.bare (bare.Command command.Jump)) (holds (codes "abc") 1) (value (negsuc 0)) ≡ refused (holds (codes "abc") 1) (value (negsuc 0)) Pop
unfolding effect give operate taken_from digits_value line_ends_from
row_jump_before_0 = refl

row_jump_to_a_pair : does (token.bare (bare.Command command.Jump)) (holds (codes "abc") 1) (record (value (pos 1)) { first = Some (pos 0) }) ≡ refused (holds (codes "abc") 1) (record (value (pos 1)) { first = Some (pos 0) }) Arg
unfolding effect give operate taken_from digits_value line_ends_from
row_jump_to_a_pair = refl

row_jump_in_parentheses : does (token.bare (bare.Command command.Jump)) (holds (codes "abc") 1) (record no_arguments { outer = Nothing ∷ [] }) ≡ refused (holds (codes "abc") 1) (record no_arguments { outer = Nothing ∷ [] }) Mrp
unfolding effect give operate taken_from digits_value line_ends_from
row_jump_in_parentheses = refl

row_forward : does (token.bare (bare.Command command.Forward)) (holds (codes "abc") 1) (no_arguments) ≡ goes (holds (codes "abc") 2) no_arguments [] 0
unfolding effect give operate taken_from digits_value line_ends_from
row_forward = refl

row_forward_back : does (token.bare (bare.Command command.Forward)) (holds (codes "abc") 3) (value (negsuc 1)) ≡ goes (holds (codes "abc") 1) no_arguments [] 0
unfolding effect give operate taken_from digits_value line_ends_from
row_forward_back = refl

row_forward_past_the_end : does (token.bare (bare.Command command.Forward)) (holds (codes "abc") 3) (no_arguments) ≡ refused (holds (codes "abc") 3) no_arguments Pop
unfolding effect give operate taken_from digits_value line_ends_from
row_forward_past_the_end = refl

row_insert : does (token.text Insert (codes "xy")) (holds (codes "abc") 1) (no_arguments) ≡ goes (holds (codes "axybc") 3) no_arguments [] 2
unfolding effect give operate taken_from digits_value line_ends_from
row_insert = refl

row_insert_byte : does (token.text Insert []) (holds (codes "abc") 3) (value (pos 255)) ≡ goes (holds (97 ∷ 98 ∷ 99 ∷ 255 ∷ []) 4) no_arguments [] 1
unfolding effect give operate taken_from digits_value line_ends_from
row_insert_byte = refl

row_insert_no_byte : does (token.text Insert []) (holds (codes "abc") 3) (value (pos 256)) ≡ refused (holds (codes "abc") 3) (value (pos 256)) Arg
unfolding effect give operate taken_from digits_value line_ends_from
row_insert_no_byte = refl

row_insert_byte_and_text : does (token.text Insert (codes "x")) (holds (codes "abc") 3) (value (pos 256)) ≡ refused (holds (codes "abc") 3) (value (pos 256)) Iia
unfolding effect give operate taken_from digits_value line_ends_from
row_insert_byte_and_text = refl

row_type_one_line : does (token.bare (bare.Command command.TypeOut)) (holds lines 1) (no_arguments) ≡ goes (holds lines 1) no_arguments (10 ∷ []) 0
unfolding effect give operate taken_from digits_value line_ends_from
row_type_one_line = refl

row_type_two_lines : does (token.bare (bare.Command command.TypeOut)) (holds lines 2) (value (pos 2)) ≡ goes (holds lines 2) no_arguments (98 ∷ 11 ∷ 12 ∷ []) 0
unfolding effect give operate taken_from digits_value line_ends_from
row_type_two_lines = refl

row_type_back : does (token.bare (bare.Command command.TypeOut)) (holds lines 5) (value (negsuc 0)) ≡ goes (holds lines 5) no_arguments (12 ∷ []) 0
unfolding effect give operate taken_from digits_value line_ends_from
row_type_back = refl

row_type_pair : does (token.bare (bare.Command command.TypeOut)) (holds (codes "abc") 0) (record (value (pos 1)) { first = Some (pos 3) }) ≡ goes (holds (codes "abc") 0) no_arguments (codes "bc") 0
unfolding effect give operate taken_from digits_value line_ends_from
row_type_pair = refl

row_type_past_the_end : does (token.bare (bare.Command command.TypeOut)) (holds (codes "abc") 0) (record (value (pos 1)) { first = Some (pos 4) }) ≡ refused (holds (codes "abc") 0) (record (value (pos 1)) { first = Some (pos 4) }) Pop
unfolding effect give operate taken_from digits_value line_ends_from
row_type_past_the_end = refl

row_print : does (token.bare (bare.Command command.Print)) (holds (codes "abc") 1) (value (negsuc 41)) ≡ goes (holds (codes "abc") 1) no_arguments (45 ∷ 52 ∷ 50 ∷ 13 ∷ 10 ∷ []) 0
unfolding effect give operate taken_from digits_value digits line_ends_from
row_print = refl

row_print_nothing : does (token.bare (bare.Command command.Print)) (holds (codes "abc") 1) (no_arguments) ≡ refused (holds (codes "abc") 1) no_arguments Nae
unfolding effect give operate taken_from digits_value line_ends_from
row_print_nothing = refl

-- the register A holds these, the others nothing
abbrev pub keeps : ℤ → List ℕ → State
keeps n text = record (beginning []) { registers = record { number = n; text = text } ∷ replicate 35 blank }

abbrev pub seven : State
seven = keeps (pos 7) (codes "abc")

abbrev pub with_colon : Setting
with_colon = record alone { modifiers = record { at = false; colons = 1 } }

abbrev inside : Setting
inside = record alone { inside = true }

abbrev found : Bool → State
found was = record (beginning []) { last_found = was }

-- the arguments m,n
abbrev pub pair : ℤ → ℤ → Arguments
pair m n = record (value n) { first = Some m }

abbrev pub opened : Arguments
opened = record no_arguments { outer = Nothing ∷ [] }

-- a value or a sign that waits
abbrev pub waits : ℤ → Arguments
waits n = record no_arguments { expression = Operation n Plus }

abbrev pub over : ℤ → Arguments
over n = record no_arguments { expression = Operation n Over }

abbrev pub minus : Arguments
minus = record no_arguments { expression = Signed Negative }

-- it ends so
abbrev ends_by : State → Arguments → End → Step
ends_by s a e = record { state = s; arguments = a; typed = []; load = 0; end = e }

row_number : does (token.register register_command.Number 0) seven (waits (pos 1)) ≡ goes seven (value (pos 8)) [] 0
unfolding effect give operate taken_from digits_value line_ends_from
row_number = refl

row_number_of_another : does (token.register register_command.Number 35) seven no_arguments ≡ goes seven (value (pos 0)) [] 0
unfolding effect give operate taken_from digits_value line_ends_from
row_number_of_another = refl

row_number_after_value : does (token.register register_command.Number 0) seven (value (pos 1)) ≡ refused seven (value (pos 1)) Arg
unfolding effect give operate taken_from digits_value line_ends_from
row_number_after_value = refl

row_length : effect (token.register register_command.Number 0) with_colon seven no_arguments ≡ goes seven (value (pos 3)) [] 0
unfolding effect give operate taken_from digits_value line_ends_from
row_length = refl

row_set_number : does (token.register register_command.Set 0) seven (value (negsuc 4)) ≡ goes (keeps (negsuc 4) (codes "abc")) no_arguments [] 0
unfolding effect give operate taken_from digits_value line_ends_from
row_set_number = refl

row_set_number_to_a_sign : does (token.register register_command.Set 0) seven minus ≡ goes (keeps (negsuc 0) (codes "abc")) no_arguments [] 0
unfolding effect give operate taken_from digits_value line_ends_from
row_set_number_to_a_sign = refl

row_set_no_number : does (token.register register_command.Set 0) seven no_arguments ≡ refused seven no_arguments Nau
unfolding effect give operate taken_from digits_value line_ends_from
row_set_no_number = refl

row_set_number_to_a_pair : does (token.register register_command.Set 0) seven (pair (pos 1) (pos 2)) ≡ refused seven (pair (pos 1) (pos 2)) Arg
unfolding effect give operate taken_from digits_value line_ends_from
row_set_number_to_a_pair = refl

row_set_number_in_parentheses : does (token.register register_command.Set 0) seven opened ≡ refused seven opened Mrp
unfolding effect give operate taken_from digits_value line_ends_from
row_set_number_in_parentheses = refl

row_increment : does (token.register register_command.Increment 0) seven no_arguments ≡ goes (keeps (pos 8) (codes "abc")) (value (pos 8)) [] 0
unfolding effect give operate taken_from digits_value line_ends_from
row_increment = refl

row_increment_by_5 : does (token.register register_command.Increment 0) seven (value (pos 5)) ≡ goes (keeps (pos 12) (codes "abc")) (value (pos 12)) [] 0
unfolding effect give operate taken_from digits_value line_ends_from
row_increment_by_5 = refl

row_increment_by_a_sign : does (token.register register_command.Increment 0) seven minus ≡ goes (keeps (pos 6) (codes "abc")) (value (pos 6)) [] 0
unfolding effect give operate taken_from digits_value line_ends_from
row_increment_by_a_sign = refl

row_increment_after_an_operator : does (token.register register_command.Increment 0) seven (waits (pos 2)) ≡ goes (keeps (pos 8) (codes "abc")) (value (pos 10)) [] 0
unfolding effect give operate taken_from digits_value line_ends_from
row_increment_after_an_operator = refl

row_increment_keeps_a_first_value : does (token.register register_command.Increment 0) seven (pair (pos 1) (pos 2)) ≡ goes (keeps (pos 9) (codes "abc")) (pair (pos 1) (pos 9)) [] 0
unfolding effect give operate taken_from digits_value line_ends_from
row_increment_keeps_a_first_value = refl

row_increment_in_parentheses : does (token.register register_command.Increment 0) seven opened ≡ goes (keeps (pos 8) (codes "abc")) (record opened { expression = Number (pos 8) }) [] 0
unfolding effect give operate taken_from digits_value line_ends_from
row_increment_in_parentheses = refl

row_increment_past_the_range : does (token.register register_command.Increment 0) (keeps (pos (2 ^ 31 - 1)) []) no_arguments ≡ refused (keeps (pos (2 ^ 31 - 1)) []) no_arguments Ovf
unfolding effect give operate taken_from digits_value line_ends_from
row_increment_past_the_range = refl

row_increment_given_past_the_range : does (token.register register_command.Increment 0) seven (waits (pos (2 ^ 31 - 1))) ≡ refused seven (waits (pos (2 ^ 31 - 1))) Ovf
unfolding effect give operate taken_from digits_value line_ends_from
row_increment_given_past_the_range = refl

row_increment_given_by_zero : does (token.register register_command.Increment 0) (keeps (negsuc 0) []) (over (pos 2)) ≡ refused (keeps (negsuc 0) []) (over (pos 2)) Dvz
unfolding effect give operate taken_from digits_value line_ends_from
row_increment_given_by_zero = refl

row_set_text : does (token.set_text 0 (codes "xy")) seven no_arguments ≡ goes (keeps (pos 7) (codes "xy")) no_arguments [] 5
unfolding effect give operate taken_from digits_value line_ends_from
row_set_text = refl

row_set_text_after_a_value : does (token.set_text 0 (codes "xy")) seven (value (pos 1)) ≡ refused seven (value (pos 1)) Arg
unfolding effect give operate taken_from digits_value line_ends_from
row_set_text_after_a_value = refl

row_set_text_in_parentheses : does (token.set_text 0 (codes "xy")) seven opened ≡ refused seven opened Mrp
unfolding effect give operate taken_from digits_value line_ends_from
row_set_text_in_parentheses = refl

row_leave_by_0 : effect (token.bare (bare.Command command.Leave)) inside (found true) (value (pos 0)) ≡ ends_by (found true) no_arguments leave
unfolding effect give operate taken_from digits_value line_ends_from
row_leave_by_0 = refl

row_leave_not_below_0 : effect (token.bare (bare.Command command.Leave)) inside (found false) (value (negsuc 0)) ≡ ends_by (found false) no_arguments on
unfolding effect give operate taken_from digits_value line_ends_from
row_leave_not_below_0 = refl

row_leave_where_not_found : effect (token.bare (bare.Command command.Leave)) inside (found false) no_arguments ≡ ends_by (found false) no_arguments leave
unfolding effect give operate taken_from digits_value line_ends_from
row_leave_where_not_found = refl

row_leave_not_where_found : effect (token.bare (bare.Command command.Leave)) inside (found true) no_arguments ≡ ends_by (found true) no_arguments on
unfolding effect give operate taken_from digits_value line_ends_from
row_leave_not_where_found = refl

row_leave_by_a_pair : does (token.bare (bare.Command command.Leave)) (found true) (pair (pos 0) (pos 1)) ≡ refused (found true) (pair (pos 0) (pos 1)) Arg
unfolding effect give operate taken_from digits_value line_ends_from
row_leave_by_a_pair = refl

row_leave_in_parentheses : does (token.bare (bare.Command command.Leave)) (found true) opened ≡ refused (found true) opened Mrp
unfolding effect give operate taken_from digits_value line_ends_from
row_leave_in_parentheses = refl

row_leave_outside_iterations : does (token.bare (bare.Command command.Leave)) (found true) (value (pos 1)) ≡ refused (found true) (value (pos 1)) Sni
unfolding effect give operate taken_from digits_value line_ends_from
row_leave_outside_iterations = refl

row_go : does (token.text Go (codes "end")) seven no_arguments ≡ ends_by seven no_arguments (go (codes "end"))
unfolding effect give operate taken_from digits_value line_ends_from
row_go = refl

row_go_after_a_value : does (token.text Go (codes "end")) seven (value (pos 1)) ≡ refused seven (value (pos 1)) Arg
unfolding effect give operate taken_from digits_value line_ends_from
row_go_after_a_value = refl

row_go_in_parentheses : does (token.text Go (codes "end")) seven opened ≡ refused seven opened Mrp
unfolding effect give operate taken_from digits_value line_ends_from
row_go_in_parentheses = refl

row_run_register : does (token.register register_command.Macro 0) seven no_arguments ≡ ends_by seven no_arguments (call (codes "abc"))
unfolding effect give operate taken_from digits_value line_ends_from
row_run_register = refl

row_run_register_keeps_arguments : does (token.register register_command.Macro 0) seven (record (pair (pos 1) (pos 2)) { outer = Nothing ∷ [] }) ≡ ends_by seven (record (pair (pos 1) (pos 2)) { outer = Nothing ∷ [] }) (call (codes "abc"))
unfolding effect give operate taken_from digits_value line_ends_from
row_run_register_keeps_arguments = refl

row_set_text_past_the_limit : (text : List ℕ) → length text ≡ TEXT_LIMIT + 1 → does (token.set_text 0 text) seven no_arguments ≡ refused seven no_arguments Big
unfolding effect give operate taken_from digits_value line_ends_from
row_set_text_past_the_limit text is = rw is refl
