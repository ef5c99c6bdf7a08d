-- Pages, the exit, the case mode, and numbers in the buffer, by computing.
use Rattle.std.proofs.Common.{◌≡◌, ℕ, ◌+◌, ◌-◌, ◌^◌, Bool, true, false, List, [], ◌∷◌, ◌++◌, length, Some, pos, negsuc, refl}
use Rattle.std.specs.Prelude.{codes}
use Rattle.std.specs.Fmt.{digits}
use Rattle.teco_core.specs.declared.case_mode.CaseMode.TheVariants.{Either}
use Rattle.teco_core.specs.declared.code.Code.TheVariants.{Arg, Big, Ipa, Mrp, Ovf, Pop, Yca}
use Rattle.teco_core.specs.declared.arguments.Expression.TheVariants.{Number}
use Rattle.teco_core.specs.declared.limits.TheConstants.{FILE_LIMIT}
use Rattle.teco_core.specs.Arguments.{no_arguments, give, taken_from}
use Rattle.teco_core.specs.Number.{digits_value}
use Rattle.teco_scan.specs.declared.command.Bare.TheVariants as bare
use Rattle.teco_scan.specs.declared.command.Command.TheVariants as command
use Rattle.teco_scan.specs.declared.command.LevelCommand.TheVariants.{Append, Decimal}
use Rattle.teco_scan.specs.Scan.{run_of}
use Rattle.teco_scan.specs.Scan as token
use Rattle.teco_store.specs.Page.{page_of}
use Rattle.teco_store.specs.State.{State, beginning}
use Rattle.teco_step.specs.Effect.{effect}
use Rattle.teco_step.specs.Step.{again, out}
use Rattle.teco_step.specs.declared.next.Work.{Work}
use Rattle.teco_step.proofs.Rows.{alone, holds, value, does, goes, refused, seven, pair, opened, waits, minus}

-- an input of two pages: ab FF c
abbrev two_pages : State
two_pages = beginning (codes "ab" ++ 12 ∷ codes "c")

-- before them an x is in the buffer, whose page ended with a form feed or not
abbrev turning : Bool → State
turning form_feed = record two_pages { text = codes "x"; form_feed = form_feed }

-- so many pages are left to turn
abbrev pages_left : ℕ → Work
pages_left n = record { left = pos n; search = false }

-- Y reads up to a form feed, or up to the end of the input
row_next_page : does (token.bare (bare.Command command.NextPage)) two_pages no_arguments ≡ goes (record two_pages { text = codes "ab"; place = 3; form_feed = true }) no_arguments [] 2
unfolding effect give taken_from digits digits_value page_of run_of
row_next_page = refl

row_last_page : does (token.bare (bare.Command command.NextPage)) (record two_pages { place = 3; form_feed = true }) no_arguments ≡ goes (record two_pages { text = codes "c"; place = 4 }) no_arguments [] 1
unfolding effect give taken_from digits digits_value page_of run_of
row_last_page = refl

row_no_page : does (token.bare (bare.Command command.NextPage)) (record two_pages { place = 4; form_feed = true }) no_arguments ≡ goes (record two_pages { place = 4 }) no_arguments [] 0
unfolding effect give taken_from digits digits_value page_of run_of
row_no_page = refl

row_next_page_over_a_text : does (token.bare (bare.Command command.NextPage)) (turning true) no_arguments ≡ refused (turning true) no_arguments Yca
unfolding effect give taken_from digits digits_value page_of run_of
row_next_page_over_a_text = refl

row_next_page_number : does (token.bare (bare.Command command.NextPage)) (turning true) (value (pos 1)) ≡ refused (turning true) (value (pos 1)) Arg
unfolding effect give taken_from digits digits_value page_of run_of
row_next_page_number = refl

row_next_page_in_parentheses : does (token.bare (bare.Command command.NextPage)) two_pages opened ≡ refused two_pages opened Mrp
unfolding effect give taken_from digits digits_value page_of run_of
row_next_page_in_parentheses = refl

-- A keeps the pointer; with no input left it keeps the flag too
row_append : does (token.bare (bare.Level Append)) (record (turning true) { pointer = 1 }) no_arguments ≡ goes (record two_pages { text = codes "xab"; pointer = 1; place = 3; form_feed = true }) no_arguments [] 2
unfolding effect give taken_from digits digits_value page_of run_of
row_append = refl

row_append_nothing : does (token.bare (bare.Level Append)) (record (turning true) { place = 4 }) no_arguments ≡ goes (record (turning true) { place = 4 }) no_arguments [] 0
unfolding effect give taken_from digits digits_value page_of run_of
row_append_nothing = refl

row_append_in_parentheses : does (token.bare (bare.Level Append)) (turning true) opened ≡ refused (turning true) opened Mrp
unfolding effect give taken_from digits digits_value page_of run_of
row_append_in_parentheses = refl

row_append_after_a_comma : does (token.bare (bare.Level Append)) (turning true) (record no_arguments { first = Some (pos 1) }) ≡ refused (turning true) (record no_arguments { first = Some (pos 1) }) Arg
unfolding effect give taken_from digits digits_value page_of run_of
row_append_after_a_comma = refl

-- P writes the page with the form feed that ended it; nP has a step for each page
row_turn : does (token.bare (bare.Command command.TurnPages)) (turning true) no_arguments ≡ goes (record two_pages { text = codes "ab"; place = 3; form_feed = true; output = 120 ∷ 12 ∷ [] }) no_arguments [] 3
unfolding effect give taken_from digits digits_value page_of run_of
row_turn = refl

row_turn_the_last_page : does (token.bare (bare.Command command.TurnPages)) (record (turning false) { place = 4 }) no_arguments ≡ goes (record two_pages { place = 4; output = codes "x" }) no_arguments [] 1
unfolding effect give taken_from digits digits_value page_of run_of
row_turn_the_last_page = refl

row_turn_two : does (token.bare (bare.Command command.TurnPages)) (turning true) (value (pos 2)) ≡ record (goes (record two_pages { text = codes "ab"; place = 3; form_feed = true; output = 120 ∷ 12 ∷ [] }) no_arguments [] 3) { end = again (pages_left 1) }
unfolding effect give taken_from digits digits_value page_of run_of
row_turn_two = refl

row_turn_further : effect (token.bare (bare.Command command.TurnPages)) (record alone { work = Some (pages_left 2) }) (turning false) no_arguments ≡ record (goes (record two_pages { text = codes "ab"; place = 3; form_feed = true; output = codes "x" }) no_arguments [] 3) { end = again (pages_left 1) }
unfolding effect give taken_from digits digits_value page_of run_of
row_turn_further = refl

row_turn_the_last_of_several : effect (token.bare (bare.Command command.TurnPages)) (record alone { work = Some (pages_left 1) }) (record (turning true) { place = 3 }) no_arguments ≡ goes (record two_pages { text = codes "c"; place = 4; output = 120 ∷ 12 ∷ [] }) no_arguments [] 2
unfolding effect give taken_from digits digits_value page_of run_of
row_turn_the_last_of_several = refl

row_turn_none : does (token.bare (bare.Command command.TurnPages)) (turning true) (value (pos 0)) ≡ refused (turning true) (value (pos 0)) Ipa
unfolding effect give taken_from digits digits_value page_of run_of
row_turn_none = refl

row_turn_back : does (token.bare (bare.Command command.TurnPages)) (turning true) minus ≡ refused (turning true) minus Ipa
unfolding effect give taken_from digits digits_value page_of run_of
row_turn_back = refl

row_turn_a_pair : does (token.bare (bare.Command command.TurnPages)) (turning true) (pair (pos 1) (pos 2)) ≡ refused (turning true) (pair (pos 1) (pos 2)) Arg
unfolding effect give taken_from digits digits_value page_of run_of
row_turn_a_pair = refl

row_turn_in_parentheses : does (token.bare (bare.Command command.TurnPages)) (turning true) opened ≡ refused (turning true) opened Mrp
unfolding effect give taken_from digits digits_value page_of run_of
row_turn_in_parentheses = refl

-- PW writes all and a form feed, m,nPW the range alone
row_write : does (token.bare (bare.Command command.WritePage)) (turning false) no_arguments ≡ goes (record (turning false) { output = 120 ∷ 12 ∷ [] }) no_arguments [] 0
unfolding effect give taken_from digits digits_value page_of run_of
row_write = refl

row_write_a_range : does (token.bare (bare.Command command.WritePage)) (holds (codes "abcd") 4) (pair (pos 3) (pos 1)) ≡ goes (record (holds (codes "abcd") 4) { output = codes "bc" }) no_arguments [] 0
unfolding effect give taken_from digits digits_value page_of run_of
row_write_a_range = refl

row_write_a_number : does (token.bare (bare.Command command.WritePage)) (turning false) (value (pos 1)) ≡ refused (turning false) (value (pos 1)) Arg
unfolding effect give taken_from digits digits_value page_of run_of
row_write_a_number = refl

row_write_past_the_end : does (token.bare (bare.Command command.WritePage)) (turning false) (pair (pos 0) (pos 2)) ≡ refused (turning false) (pair (pos 0) (pos 2)) Pop
unfolding effect give taken_from digits digits_value page_of run_of
row_write_past_the_end = refl

row_write_before_0 : does (token.bare (bare.Command command.WritePage)) (turning false) (pair (negsuc 0) (pos 1)) ≡ refused (turning false) (pair (negsuc 0) (pos 1)) Pop
unfolding effect give taken_from digits digits_value page_of run_of
row_write_before_0 = refl

row_write_in_parentheses : does (token.bare (bare.Command command.WritePage)) (turning false) opened ≡ refused (turning false) opened Mrp
unfolding effect give taken_from digits digits_value page_of run_of
row_write_in_parentheses = refl

-- EX writes what is left, as it is
row_exit : does (token.bare (bare.Command command.Exit)) (record (turning true) { pointer = 1 }) no_arguments ≡ record (goes (record two_pages { place = 4; output = 120 ∷ 12 ∷ codes "ab" ++ 12 ∷ codes "c"; is_done = true }) no_arguments [] 1) { end = out }
unfolding effect give taken_from digits digits_value page_of run_of
row_exit = refl

row_exit_number : does (token.bare (bare.Command command.Exit)) (turning true) (value (pos 1)) ≡ refused (turning true) (value (pos 1)) Arg
unfolding effect give taken_from digits digits_value page_of run_of
row_exit_number = refl

row_exit_in_parentheses : does (token.bare (bare.Command command.Exit)) (turning true) opened ≡ refused (turning true) opened Mrp
unfolding effect give taken_from digits digits_value page_of run_of
row_exit_in_parentheses = refl

-- n^X
row_either_case : does (token.bare (bare.Command command.CaseMode)) seven (value (pos 0)) ≡ goes (record seven { case_mode = Either }) no_arguments [] 0
unfolding effect give taken_from digits digits_value page_of run_of
row_either_case = refl

row_exact_case : does (token.bare (bare.Command command.CaseMode)) (record seven { case_mode = Either }) minus ≡ goes seven no_arguments [] 0
unfolding effect give taken_from digits digits_value page_of run_of
row_exact_case = refl

row_no_such_case : does (token.bare (bare.Command command.CaseMode)) seven (value (pos 1)) ≡ refused seven (value (pos 1)) Arg
unfolding effect give taken_from digits digits_value page_of run_of
row_no_such_case = refl

row_no_case_below : does (token.bare (bare.Command command.CaseMode)) seven (value (negsuc 1)) ≡ refused seven (value (negsuc 1)) Arg
unfolding effect give taken_from digits digits_value page_of run_of
row_no_case_below = refl

row_case_of_nothing : does (token.bare (bare.Command command.CaseMode)) seven no_arguments ≡ refused seven no_arguments Arg
unfolding effect give taken_from digits digits_value page_of run_of
row_case_of_nothing = refl

-- n\ inserts n
row_insert_number : does (token.bare (bare.Level Decimal)) (holds (codes "ab") 1) (value (pos 42)) ≡ goes (holds (codes "a42b") 3) no_arguments [] 2
unfolding effect give taken_from digits digits_value page_of run_of
row_insert_number = refl

row_insert_a_number_below_0 : does (token.bare (bare.Level Decimal)) (holds (codes "ab") 2) (value (negsuc 6)) ≡ goes (holds (codes "ab-7") 4) no_arguments [] 2
unfolding effect give taken_from digits digits_value page_of run_of
row_insert_a_number_below_0 = refl

row_insert_a_pair : does (token.bare (bare.Level Decimal)) (holds (codes "ab") 1) (pair (pos 1) (pos 2)) ≡ refused (holds (codes "ab") 1) (pair (pos 1) (pos 2)) Arg
unfolding effect give taken_from digits digits_value page_of run_of
row_insert_a_pair = refl

row_insert_number_in_parentheses : does (token.bare (bare.Level Decimal)) (holds (codes "ab") 1) (record opened { expression = Number (pos 4) }) ≡ refused (holds (codes "ab") 1) (record opened { expression = Number (pos 4) }) Mrp
unfolding effect give taken_from digits digits_value page_of run_of
row_insert_number_in_parentheses = refl

-- \ reads the number at the pointer
row_read_number : does (token.bare (bare.Level Decimal)) (holds (codes "ab007c") 2) no_arguments ≡ goes (holds (codes "ab007c") 5) (value (pos 7)) [] 0
unfolding effect give taken_from digits digits_value page_of run_of
row_read_number = refl

row_read_a_number_below_0 : does (token.bare (bare.Level Decimal)) (holds (codes "ab-12c") 2) no_arguments ≡ goes (holds (codes "ab-12c") 5) (value (negsuc 11)) [] 0
unfolding effect give taken_from digits digits_value page_of run_of
row_read_a_number_below_0 = refl

row_read_no_digit : does (token.bare (bare.Level Decimal)) (holds (codes "abc") 1) no_arguments ≡ goes (holds (codes "abc") 1) (value (pos 0)) [] 0
unfolding effect give taken_from digits digits_value page_of run_of
row_read_no_digit = refl

row_read_a_sign_alone : does (token.bare (bare.Level Decimal)) (holds (codes "--5") 0) no_arguments ≡ goes (holds (codes "--5") 0) (value (pos 0)) [] 0
unfolding effect give taken_from digits digits_value page_of run_of
row_read_a_sign_alone = refl

row_read_at_the_end : does (token.bare (bare.Level Decimal)) (holds (codes "5-") 2) no_arguments ≡ goes (holds (codes "5-") 2) (value (pos 0)) [] 0
unfolding effect give taken_from digits digits_value page_of run_of
row_read_at_the_end = refl

row_read_the_lowest : does (token.bare (bare.Level Decimal)) (holds (codes "-2147483648") 0) no_arguments ≡ goes (holds (codes "-2147483648") 11) (value (negsuc (2 ^ 31 - 1))) [] 0
unfolding effect give taken_from digits digits_value page_of run_of
row_read_the_lowest = refl

row_read_past_the_highest : does (token.bare (bare.Level Decimal)) (holds (codes "2147483648") 0) no_arguments ≡ refused (holds (codes "2147483648") 0) no_arguments Ovf
unfolding effect give taken_from digits digits_value page_of run_of
row_read_past_the_highest = refl

row_read_to_an_operator : does (token.bare (bare.Level Decimal)) (holds (codes "12") 0) (waits (pos 5)) ≡ goes (holds (codes "12") 2) (value (pos 17)) [] 0
unfolding effect give taken_from digits digits_value page_of run_of
row_read_to_an_operator = refl

row_read_to_a_sign : does (token.bare (bare.Level Decimal)) (holds (codes "-5") 0) minus ≡ goes (holds (codes "-5") 2) (value (pos 5)) [] 0
unfolding effect give taken_from digits digits_value page_of run_of
row_read_to_a_sign = refl

row_read_what_cannot_be_given : does (token.bare (bare.Level Decimal)) (holds (codes "1") 0) (waits (pos (2 ^ 31 - 1))) ≡ refused (holds (codes "1") 0) (waits (pos (2 ^ 31 - 1))) Ovf
unfolding effect give taken_from digits digits_value page_of run_of
row_read_what_cannot_be_given = refl

row_read_after_a_comma : does (token.bare (bare.Level Decimal)) (holds (codes "3") 0) (record no_arguments { first = Some (pos 1) }) ≡ goes (holds (codes "3") 1) (pair (pos 1) (pos 3)) [] 0
unfolding effect give taken_from digits digits_value page_of run_of
row_read_after_a_comma = refl

row_read_in_parentheses : does (token.bare (bare.Level Decimal)) (holds (codes "3") 0) opened ≡ goes (holds (codes "3") 1) (record opened { expression = Number (pos 3) }) [] 0
unfolding effect give taken_from digits digits_value page_of run_of
row_read_in_parentheses = refl

row_write_past_the_limit : (output : List ℕ) → length (output ++ 12 ∷ []) ≡ FILE_LIMIT + 1
    → does (token.bare (bare.Command command.WritePage)) (record (beginning []) { output = output }) no_arguments ≡ refused (record (beginning []) { output = output }) no_arguments Big
unfolding effect give taken_from digits digits_value page_of run_of
row_write_past_the_limit output is = rw is refl
