-- Values, and what builds arguments.
use Rattle.std.specs.Prelude.{ℕ, List, length, slice_index, Result, Err, ℤ, pos, negsuc, ◌+ℤ◌, ◌-ℤ◌, nat_lt, if◌then◌else◌}
use Rattle.teco_core.specs.declared.code.Code.{Code}
use Rattle.teco_core.specs.declared.code.Code.TheVariants.{Arg}
use Rattle.teco_core.specs.declared.arguments.Level.{Level}
use Rattle.teco_core.specs.declared.arguments.Level.TheVariants as level
use Rattle.teco_core.specs.Refusal.{◌>>=◌}
use Rattle.teco_core.specs.Number.{decimal_value, truth}
use Rattle.teco_core.specs.Arguments.{Arguments, operate, open_level, close_level, comma, give_pair, level_of, emptied}
use Rattle.teco_scan.specs.declared.command.Arithmetic.{Arithmetic}
use Rattle.teco_scan.specs.declared.command.Arithmetic.TheVariants as arithmetic
use Rattle.teco_scan.specs.declared.command.LevelCommand.{LevelCommand}
use Rattle.teco_scan.specs.declared.command.LevelCommand.TheVariants as level_command
use Rattle.teco_scan.specs.declared.command.Modifiers.{Modifiers}
use Rattle.teco_scan.specs.declared.command.Quantity.{Quantity}
use Rattle.teco_scan.specs.declared.command.Quantity.TheVariants as quantity
use Rattle.teco_store.specs.State.{State}
use Rattle.teco_store.specs.Page.{is_input_over}
use Rattle.teco_step.specs.Step.{Made, leaves, gives}
use Rattle.teco_step.specs.Pages.{append_page}
use Rattle.teco_step.specs.Decimal.{decimal}
use Rattle.teco_step.specs.Line.{line}

-- A run of digits gives its decimal value.
abbrev pub number : List ℕ → State → Arguments → Made
number digits s a = do
  n ← decimal_value digits
  gives s a n

-- B gives 0, Z the length of the text, and a point the pointer; ^E gives -1 where a form feed ended the page, ^N where no input is
-- left, and else 0.
abbrev pub quantity_value : Quantity → State → ℤ
quantity_value quantity.Beginning s = pos 0
quantity_value quantity.End s = pos (length s.text)
quantity_value quantity.Pointer s = pos s.pointer
quantity_value quantity.FormFeed s = truth s.form_feed
quantity_value quantity.InputEnd s = truth (is_input_over s)

abbrev pub give_quantity : Quantity → State → Arguments → Made
give_quantity q s a = gives s a (quantity_value q s)

-- ^^ and a byte gives the byte's code.
abbrev pub give_byte : ℕ → State → Arguments → Made
give_byte b s a = gives s a (pos b)

-- What H, an operator, ( and ) and a comma make of arguments, where the text has this length.
abbrev pub built : Arithmetic → ℕ → Arguments → Result Arguments Code
built arithmetic.Whole z a = give_pair z a
built (arithmetic.Operator o) z a = operate o a
built arithmetic.Open z a = open_level a
built arithmetic.Close z a = close_level a
built arithmetic.Comma z a = comma a

abbrev pub build : Arithmetic → State → Arguments → Made
build b s a = do
  built_up ← built b (length s.text) a
  leaves s built_up

-- the code of the byte at a place, or -1 where none is
abbrev pub code_at : List ℕ → ℤ → ℤ
code_at text (pos place) = if nat_lt place (length text) then pos (slice_index text place) else negsuc 0
code_at text (negsuc n) = negsuc 0

-- The code of the character n after the pointer comes for what the level has.
abbrev pub gives_code : ℤ → State → Arguments → Made
gives_code n s a = gives s (emptied a) (code_at s.text (pos s.pointer +ℤ n))

-- What A does, by what the level has.
abbrev pub appends : Modifiers → Level → State → Arguments → Made
appends m (level.Value n) s a = gives_code n s a
appends m (level.Sign n) s a = gives_code n s a
appends m level.Empty s a = append_page m s a
appends m level.Waits s a = Err Arg

-- nA gives the code of the character after the place n from the pointer, or -1 where none is there, with a colon too; A reads a page.
abbrev pub append : Modifiers → State → Arguments → Made
append m s a = appends m (level_of a.expression) s a

-- how far the place of line n is from the pointer, negative backward
abbrev pub distance_to : ℤ → State → ℤ
distance_to n s = pos (line s.text s.pointer n) -ℤ pos s.pointer

-- n^Q: how far line n is comes for what the level has. Without n that of the next line is given.
abbrev pub distance_at_level : Level → State → Arguments → Made
distance_at_level (level.Value n) s a = gives s (emptied a) (distance_to n s)
distance_at_level (level.Sign n) s a = gives s (emptied a) (distance_to n s)
distance_at_level level.Empty s a = gives s a (distance_to (pos 1) s)
distance_at_level level.Waits s a = gives s a (distance_to (pos 1) s)

abbrev pub distance : State → Arguments → Made
distance s a = distance_at_level (level_of a.expression) s a

-- A value or a command, by what the level has.
abbrev pub at_level : Modifiers → LevelCommand → State → Arguments → Made
at_level m level_command.Append s a = append m s a
at_level m level_command.Decimal s a = decimal s a
at_level m level_command.Distance s a = distance s a
