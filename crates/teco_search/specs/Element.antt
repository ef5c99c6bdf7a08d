-- Which bytes an element of a search text admits. Letters and digits are those of ASCII.
use Rattle.std.specs.Prelude.{ℕ, Bool, true, not, ◌&&◌, ◌||◌, ◌==◌}
use Rattle.std.specs.List.{list_any}
use Rattle.teco_core.specs.Ascii.{is_digit, is_letter, is_line_end, is_lower, is_upper, upper}
use Rattle.teco_core.specs.declared.case_mode.CaseMode.{CaseMode}
use Rattle.teco_core.specs.declared.case_mode.CaseMode.TheVariants.{Exact, Either}
use Rattle.teco_search.specs.declared.element.Class.{Class}
use Rattle.teco_search.specs.declared.element.Class.TheVariants as class
use Rattle.teco_search.specs.declared.element.SetItem.{SetItem}
use Rattle.teco_search.specs.declared.element.SetItem.TheVariants as item
use Rattle.teco_search.specs.declared.element.OneByte.{OneByte}
use Rattle.teco_search.specs.declared.element.OneByte.TheVariants as one
use Prim.Native.Char.{code}

-- space and TAB
abbrev pub is_blank : ℕ → Bool
is_blank b = b == code " " || b == code "\t"

-- whether a byte is of a kind
unfoldable pub is_in : Class → ℕ → Bool
is_in class.Any b = true
is_in class.Other b = not (is_letter b) && not (is_digit b)
is_in class.Letter b = is_letter b
is_in class.Digit b = is_digit b
is_in class.LineEnd b = is_line_end b
is_in class.LetterOrDigit b = is_letter b || is_digit b
is_in class.LowerCase b = is_lower b
is_in class.UpperCase b = is_upper b

-- With either case a letter is both its cases.
abbrev pub is_same : CaseMode → ℕ → ℕ → Bool
is_same Exact a b = a == b
is_same Either a b = upper a == upper b

-- whether an item admits a byte
unfoldable pub item_admits : CaseMode → SetItem → ℕ → Bool
item_admits mode (item.Byte a) b = is_same mode a b
item_admits mode (item.Class c) b = is_in c b

-- a list admits what one of its items admits
unfoldable pub admits : CaseMode → OneByte → ℕ → Bool
admits mode (one.Single i) b = item_admits mode i b
admits mode (one.Listed is) b = list_any (λ i. item_admits mode i b) is
