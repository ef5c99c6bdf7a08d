-- What a table of commands must be, for the first row that fits to be the only one, or the one of the longest token.
use Rattle.std.specs.Prelude.{ℕ, ◌+◌, ◌-◌, Bool, true, false, ◌&&◌, ◌||◌, not, List, [], ◌∷◌, ◌==◌, nat_le, if◌then◌else◌}
use Rattle.std.specs.List.{list_all, list_any}
use Rattle.teco_core.specs.Ascii.{is_digit, upper}
use Rattle.teco_scan.specs.declared.command.Row.{Row}
use Rattle.teco_scan.specs.declared.command.Name.{Name}
use Rattle.teco_scan.specs.declared.command.Name.TheVariants.{One, Two, Three, Control}
use Rattle.teco_scan.specs.declared.command.Form.{Form}
use Rattle.teco_scan.specs.declared.command.Form.TheVariants as form
use Rattle.teco_scan.specs.Scan.{is_refused}
use Prim.Native.Char.{code}

-- the byte is no small letter: letters are written in upper case, and other bytes have no case
abbrev pub is_not_lower : ℕ → Bool
is_not_lower l = upper l == l

-- a name's first letter is neither @ nor a colon nor a digit
abbrev pub is_first_letter : ℕ → Bool
is_first_letter l = is_not_lower l && not (l == code "@") && not (l == code ":") && not (is_digit l)

-- the letter of a control command is from A to ^
abbrev pub is_name : Name → Bool
is_name (One l) = is_first_letter l
is_name (Two l k) = is_first_letter l && is_not_lower k
is_name (Three l k j) = is_first_letter l && is_not_lower k && is_not_lower j
is_name (Control l) = nat_le (code "A") l && nat_le l (code "^")

abbrev pub lower : ℕ → ℕ
lower l = if nat_le (code "A") l && nat_le l (code "Z") then l + 32 else l

-- the bytes that a name may begin with
abbrev pub first_bytes : Name → List ℕ
first_bytes (One l) = l ∷ lower l ∷ []
first_bytes (Two l k) = l ∷ lower l ∷ []
first_bytes (Three l k j) = l ∷ lower l ∷ []
first_bytes (Control l) = (l - 64) ∷ code "^" ∷ []

abbrev pub begins_with : Name → ℕ → Bool
begins_with (One l) b = upper b == l
begins_with (Two l k) b = upper b == l
begins_with (Three l k j) b = upper b == l
begins_with (Control l) b = b + 64 == l || b == code "^"

-- Some bytes may begin both names: for two names of two letters the same two letters, else a first byte.
abbrev pub meets : Name → Name → Bool
meets (Control l) (Control k) = l == k
meets (Two l k) (Two i j) = l == i && k == j
meets s r = list_any (begins_with s) (first_bytes r)

-- nothing follows the name
abbrev pub is_alone : Form → Bool
is_alone (form.Bare c) = true
is_alone (form.Mark c) = true
is_alone form.Escape = true
is_alone form.Refused = true
is_alone _ = false

abbrev pub has_more_letters : Name → Name → Bool
has_more_letters (Two l k) (One i) = true
has_more_letters (Three l k j) (One i) = true
has_more_letters (Three l k j) (Two i h) = true
has_more_letters _ _ = false

-- The first of two rows has more letters, and nothing follows either name. What is longer than a refused name is refused.
abbrev pub is_longer : Row → Row → Bool
is_longer s r = has_more_letters s.name r.name && is_alone s.form && is_alone r.form
    && (is_refused s.form || not (is_refused r.form))

abbrev pub is_apart : List Row → Bool
is_apart [] = true
is_apart (s ∷ rows) = list_all (λ r. not (meets s.name r.name) || is_longer s r) rows && is_apart rows

-- each name is one that a command may have, and of two names that some byte may begin the longer one comes first
abbrev pub is_table : List Row → Bool
is_table rows = list_all (λ r. is_name r.name) rows && is_apart rows
