-- Sets of bytes.
use Rattle.std.specs.Prelude.{◌≡◌, ℕ, ◌<◌, Some, Bool, false, ◌||◌, ◌==◌, List, slice_get}
use Rattle.std.specs.List.{list_any}
use Rattle.std.specs.Option.{option_map_or}
use Rattle.teco_core.specs.declared.case_mode.CaseMode.{CaseMode}
use Rattle.teco_core.specs.declared.case_mode.CaseMode.TheVariants.{Exact, Either}
use Rattle.teco_search.specs.declared.byte_set.ByteSet.{ByteSet}
use Rattle.teco_search.specs.declared.byte_set.ByteSet.TheVariants.{Empty, One, Two, Three, Kind, Table}
use Rattle.teco_search.specs.declared.byte_table.Tables.{Tables}
use Rattle.teco_search.specs.declared.element.SetItem.{SetItem}
use Rattle.teco_search.specs.Element.{is_in, item_admits}

-- whether a table has a byte
abbrev pub in_table : List Bool → ℕ → Bool
in_table table x = option_map_or (λ is_in. is_in) (slice_get table x) false

-- whether a byte is in a set
abbrev pub contains : ByteSet → ℕ → Bool
contains Empty x = false
contains (One a) x = x == a
contains (Two a b) x = x == a || x == b
contains (Three a b c) x = x == a || x == b || x == c
contains (Kind class) x = is_in class x
contains (Table table) x = in_table table x

-- A table has what it had, and what passes a test.
abbrev pub Adds : List Bool → List Bool → (ℕ → Bool) → Type 0
Adds old new test = (b : ℕ) → b < 256 → in_table new b ≡ (in_table old b || test b)

-- the table of a case mode
abbrev pub table_in : CaseMode → Tables → List Bool
table_in Exact tables = tables.exact
table_in Either tables = tables.either

-- In each case mode the table has the bytes that one of some items admits.
pub record AreTablesOf (tables : Tables) (items : List SetItem) : Type 0 where
  pub has : (mode : CaseMode) (b : ℕ) → b < 256 → in_table (table_in mode tables) b ≡ list_any (λ i. item_admits mode i b) items

-- Each byte of a text fits in eight bits.
pub record AreBytes (text : List ℕ) : Type 0 where
  pub fits : (k b : ℕ) → slice_get text k ≡ Some b → b < 256
