-- Where a name's first byte leads in the table, and what comes before a command's operand.
use Rattle.std.specs.Prelude.{ℕ, Bool, true, ◌&&◌, not, List, [], ◌∷◌, Option, Some, None, Ok, Err, take, drop, ◌==◌, if◌then◌else◌}
use Rattle.std.specs.List.{list_all}
use Rattle.teco_core.specs.declared.code.Code.TheVariants.{Ill, Utc}
use Rattle.teco_core.specs.Refusal.{◌>>=◌}
use Rattle.teco_core.specs.Ascii.{upper}
use Rattle.teco_scan.specs.declared.command.Modifiers.{Modifiers}
use Rattle.teco_scan.specs.declared.command.Row.{Row}
use Rattle.teco_scan.specs.declared.command.Name.{Name}
use Rattle.teco_scan.specs.declared.command.Name.TheVariants.{One, Two, Three, Control}
use Rattle.teco_scan.specs.declared.command.Form.{Form}
use Rattle.teco_scan.specs.Scan.{Reading, TokenMeaning, no_modifiers, modifiers_at, operand_at, row_at, is_cut}
use Rattle.teco_scan.specs.Table.{begins_with}
use Prim.Native.Char.{code}

-- no name of these rows begins with the byte
abbrev pub none_begins : List Row → ℕ → Bool
none_begins rows b = list_all (λ r. not (begins_with r.name b)) rows

-- A name of one letter is the byte, and no modifier.
abbrev pub is_whole : Name → ℕ → Bool
is_whole (One l) b = upper b == l && not (b == code "@") && not (b == code ":")
is_whole (Two l k) b = true
is_whole (Three l k j) b = true
is_whole (Control l) b = true

abbrev pub is_whole_first : List Row → ℕ → Bool
is_whole_first [] b = true
is_whole_first (r ∷ rows) b = is_whole r.name b

-- The byte leads to this row of a table: no row before it has a name that begins with the byte.
abbrev pub picks : List Row → ℕ → ℕ → Bool
picks rows n b = none_begins (take n rows) b && is_whole_first (drop n rows) b

-- the form of the command by whose name the bytes begin, and the bytes after that
abbrev pub form_of : List Row → Modifiers → List ℕ → Option (Row × List ℕ) → Reading Form
form_of rows m bs (Some r) = Ok (r.0.form, r.1)
form_of rows m bs None = if is_cut rows m bs then Err Utc else Err Ill

abbrev pub form_at : List Row → Modifiers → List ℕ → Reading Form
form_at rows m bs = form_of rows m bs (row_at rows m bs)

-- with the modifiers before it
unfoldable pub named_at : List Row → List ℕ → Reading (Modifiers × Form)
named_at rows bs = do
  m ← modifiers_at no_modifiers bs
  f ← form_at rows m.0 m.1
  Ok ((m.0, f.0), f.1)

-- a command with its operand
abbrev pub with_operand : Reading (Modifiers × Form) → Reading TokenMeaning
with_operand r = do
  n ← r
  i ← operand_at n.0.1 n.0.0 n.1
  Ok (record { modifiers = n.0.0; instruction = i.0 }, i.1)
