-- Deletions, the push-down list and what types, by computing.
use Rattle.std.proofs.Common.{◌≡◌, ℕ, List, [], ◌∷◌, ◌++◌, replicate, pos, negsuc, refl}
use Rattle.std.specs.Prelude.{codes}
use Rattle.std.specs.Fmt.{digits}
use Rattle.teco_core.specs.declared.code.Code.TheVariants.{Arg, Cpq, Iia, Mrp, Nae, Pdo, Pop}
use Rattle.teco_core.specs.Arguments.{no_arguments, give, operate, taken_from}
use Rattle.teco_core.specs.Number.{digits_value}
use Rattle.teco_core.specs.Register.{Content, blank}
use Rattle.teco_scan.specs.declared.command.Bare.TheVariants as bare
use Rattle.teco_scan.specs.declared.command.Command.TheVariants as command
use Rattle.teco_scan.specs.declared.command.RegisterCommand.TheVariants as register_command
use Rattle.teco_scan.specs.declared.command.TextCommand.TheVariants.{InsertTab}
use Rattle.teco_scan.specs.Scan as token
use Rattle.teco_store.specs.State.{State}
use Rattle.teco_step.specs.Effect.{effect}
use Rattle.teco_step.specs.Line.{line_ends_from}
use Rattle.teco_step.proofs.Rows.{lines, holds, value, does, goes, refused, keeps, seven, with_colon, pair, opened, minus}

row_kill : does (token.bare (bare.Command command.Kill)) (holds lines 0) no_arguments ≡ goes (holds (98 ∷ 11 ∷ 12 ∷ 99 ∷ []) 0) no_arguments [] 2
unfolding effect give operate taken_from digits_value line_ends_from
row_kill = refl

row_kill_back : does (token.bare (bare.Command command.Kill)) (holds lines 5) (value (negsuc 0)) ≡ goes (holds (97 ∷ 10 ∷ 98 ∷ 11 ∷ 99 ∷ []) 4) no_arguments [] 1
unfolding effect give operate taken_from digits_value line_ends_from
row_kill_back = refl

row_kill_a_range : does (token.bare (bare.Command command.Kill)) (holds (codes "abcd") 4) (pair (pos 3) (pos 1)) ≡ goes (holds (codes "ad") 1) no_arguments [] 2
unfolding effect give operate taken_from digits_value line_ends_from
row_kill_a_range = refl

row_kill_past_the_end : does (token.bare (bare.Command command.Kill)) (holds (codes "abcd") 4) (pair (pos 3) (pos 5)) ≡ refused (holds (codes "abcd") 4) (pair (pos 3) (pos 5)) Pop
unfolding effect give operate taken_from digits_value line_ends_from
row_kill_past_the_end = refl

row_kill_in_parentheses : does (token.bare (bare.Command command.Kill)) (holds (codes "abcd") 4) opened ≡ refused (holds (codes "abcd") 4) opened Mrp
unfolding effect give operate taken_from digits_value line_ends_from
row_kill_in_parentheses = refl

-- the register A holds these, and the buffer so much
abbrev with_buffer : State → List ℕ → ℕ → State
with_buffer s text place = record s { text = text; pointer = place }

row_extract : does (token.register register_command.Extract 0) (with_buffer seven lines 0) no_arguments ≡ goes (with_buffer (keeps (pos 7) (97 ∷ 10 ∷ [])) lines 0) no_arguments [] 5
unfolding effect give operate taken_from digits_value line_ends_from
row_extract = refl

row_extract_back : does (token.register register_command.Extract 0) (with_buffer seven lines 5) (value (negsuc 1)) ≡ goes (with_buffer (keeps (pos 7) (98 ∷ 11 ∷ 12 ∷ [])) lines 5) no_arguments [] 6
unfolding effect give operate taken_from digits_value line_ends_from
row_extract_back = refl

row_extract_a_range : does (token.register register_command.Extract 0) (with_buffer seven lines 5) (pair (pos 6) (pos 4)) ≡ goes (with_buffer (keeps (pos 7) (12 ∷ 99 ∷ [])) lines 5) no_arguments [] 5
unfolding effect give operate taken_from digits_value line_ends_from
row_extract_a_range = refl

row_extract_below_0 : does (token.register register_command.Extract 0) (with_buffer seven lines 5) (pair (negsuc 0) (pos 4)) ≡ refused (with_buffer seven lines 5) (pair (negsuc 0) (pos 4)) Pop
unfolding effect give operate taken_from digits_value line_ends_from
row_extract_below_0 = refl

-- these are pushed
abbrev pushes : State → List Content → State
pushes s cs = record s { pushed = cs }

abbrev one_xy : Content
one_xy = record { number = pos 1; text = codes "xy" }

row_push_keeps_arguments : does (token.register register_command.Push 0) (pushes seven (one_xy ∷ [])) (pair (pos 1) (pos 2)) ≡ goes (pushes seven (record { number = pos 7; text = codes "abc" } ∷ one_xy ∷ [])) (pair (pos 1) (pos 2)) [] 3
unfolding effect give operate taken_from digits_value line_ends_from
row_push_keeps_arguments = refl

row_push_a_65th : does (token.register register_command.Push 0) (pushes seven (replicate 64 blank)) no_arguments ≡ refused (pushes seven (replicate 64 blank)) no_arguments Pdo
unfolding effect give operate taken_from digits_value line_ends_from
row_push_a_65th = refl

row_pop_keeps_arguments : does (token.register register_command.Pop 0) (pushes seven (one_xy ∷ blank ∷ [])) opened ≡ goes (pushes (keeps (pos 1) (codes "xy")) (blank ∷ [])) opened [] 5
unfolding effect give operate taken_from digits_value line_ends_from
row_pop_keeps_arguments = refl

row_pop_nothing : does (token.register register_command.Pop 0) seven (value (pos 1)) ≡ refused seven (value (pos 1)) Cpq
unfolding effect give operate taken_from digits_value line_ends_from
row_pop_nothing = refl

row_view : does (token.bare (bare.Command command.View)) (holds lines 3) no_arguments ≡ goes (holds lines 3) no_arguments (98 ∷ 11 ∷ []) 0
unfolding effect give operate taken_from digits_value line_ends_from
row_view = refl

row_view_an_empty_line : does (token.bare (bare.Command command.View)) (holds lines 4) no_arguments ≡ goes (holds lines 4) no_arguments (12 ∷ []) 0
unfolding effect give operate taken_from digits_value line_ends_from
row_view_an_empty_line = refl

row_view_a_number : does (token.bare (bare.Command command.View)) (holds lines 3) (value (pos 1)) ≡ refused (holds lines 3) (value (pos 1)) Arg
unfolding effect give operate taken_from digits_value line_ends_from
row_view_a_number = refl

row_tab : does (token.text InsertTab (codes "x")) (holds (codes "abc") 1) no_arguments ≡ goes (holds (97 ∷ 9 ∷ 120 ∷ 98 ∷ 99 ∷ []) 3) no_arguments [] 2
unfolding effect give operate taken_from digits_value line_ends_from
row_tab = refl

row_tab_after_a_value : does (token.text InsertTab (codes "x")) (holds (codes "abc") 1) (value (pos 1)) ≡ refused (holds (codes "abc") 1) (value (pos 1)) Iia
unfolding effect give operate taken_from digits_value line_ends_from
row_tab_after_a_value = refl

row_tab_after_a_pair : does (token.text InsertTab (codes "x")) (holds (codes "abc") 1) (pair (pos 1) (pos 2)) ≡ refused (holds (codes "abc") 1) (pair (pos 1) (pos 2)) Iia
unfolding effect give operate taken_from digits_value line_ends_from
row_tab_after_a_pair = refl

row_tab_in_parentheses : does (token.text InsertTab (codes "x")) (holds (codes "abc") 1) opened ≡ refused (holds (codes "abc") 1) opened Mrp
unfolding effect give operate taken_from digits_value line_ends_from
row_tab_in_parentheses = refl

row_type_byte : does (token.bare (bare.Command command.TypeByte)) seven (value (pos 255)) ≡ goes seven no_arguments (255 ∷ []) 0
unfolding effect give operate taken_from digits_value line_ends_from
row_type_byte = refl

row_type_byte_of_a_sign : does (token.bare (bare.Command command.TypeByte)) seven minus ≡ refused seven minus Arg
unfolding effect give operate taken_from digits_value line_ends_from
row_type_byte_of_a_sign = refl

row_type_byte_past_255 : does (token.bare (bare.Command command.TypeByte)) seven (value (pos 256)) ≡ refused seven (value (pos 256)) Arg
unfolding effect give operate taken_from digits_value line_ends_from
row_type_byte_past_255 = refl

row_type_no_byte : does (token.bare (bare.Command command.TypeByte)) seven no_arguments ≡ refused seven no_arguments Arg
unfolding effect give operate taken_from digits_value line_ends_from
row_type_no_byte = refl

row_print_with_a_colon : effect (token.bare (bare.Command command.Print)) with_colon seven (value (negsuc 11)) ≡ goes seven no_arguments (codes "-12") 0
unfolding effect give operate taken_from digits_value line_ends_from digits
row_print_with_a_colon = refl

row_print_nothing_with_a_colon : effect (token.bare (bare.Command command.Print)) with_colon seven no_arguments ≡ refused seven no_arguments Nae
unfolding effect give operate taken_from digits_value line_ends_from
row_print_nothing_with_a_colon = refl

row_print_octal : does (token.bare (bare.Command command.PrintOctal)) seven (value (negsuc 0)) ≡ goes seven no_arguments (codes "37777777777" ++ 13 ∷ 10 ∷ []) 0
unfolding effect give operate taken_from digits_value line_ends_from digits
row_print_octal = refl

row_print_octal_of_0 : does (token.bare (bare.Command command.PrintOctal)) seven (value (pos 0)) ≡ goes seven no_arguments (48 ∷ 13 ∷ 10 ∷ []) 0
unfolding effect give operate taken_from digits_value line_ends_from digits
row_print_octal_of_0 = refl

row_print_octal_with_a_colon : effect (token.bare (bare.Command command.PrintOctal)) with_colon seven (value (pos 511)) ≡ goes seven no_arguments (codes "777") 0
unfolding effect give operate taken_from digits_value line_ends_from digits
row_print_octal_with_a_colon = refl

row_print_octal_of_nothing : does (token.bare (bare.Command command.PrintOctal)) seven no_arguments ≡ refused seven no_arguments Nae
unfolding effect give operate taken_from digits_value line_ends_from
row_print_octal_of_nothing = refl
