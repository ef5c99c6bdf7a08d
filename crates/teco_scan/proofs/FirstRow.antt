-- A name's first byte leads to the first row that it may be in.
use Rattle.std.proofs.Common.{◌≡◌, ℕ, zero, suc, ◌<◌, ◌≤◌, Bool, true, false, cond, List, [], ◌∷◌, length, take, drop, Option, Some, None, Ok, Err, inl, inr, refl, sym, ap, ◌∙◌, arith, leb-true, drop-cons}
use Rattle.std.specs.Prelude.{◌&&◌, ◌||◌, not, ◌+◌, ◌-◌, ◌==◌, get_or, if◌then◌else◌, nat_le, slice_index_or, ◌/◌, ◌%◌}
use Rattle.std.proofs.Math.Nat.{eq-or-lt_of_le}
use Rattle.std.proofs.lemmas.Bool.{le-leb}
use Rattle.std.proofs.lemmas.List.{take_rest, get_or_default}
use Rattle.teco_scan.proofs.Places.{front, scan_found}
use Rattle.teco_core.specs.declared.code.Code.TheVariants.{Ill, Utc}
use Rattle.teco_core.specs.Refusal.{◌>>=◌}
use Rattle.teco_core.specs.Ascii.{is_digit, upper}
use Rattle.teco_scan.specs.declared.command.Modifiers.{Modifiers}
use Rattle.teco_scan.specs.declared.command.Row.{Row}
use Rattle.teco_scan.specs.declared.command.Name.{Name}
use Rattle.teco_scan.specs.declared.command.Name.TheVariants.{One, Two, Three, Control}
use Rattle.teco_scan.specs.declared.command.Form.{Form}
use Rattle.teco_scan.specs.declared.command.Form.TheVariants.{Register, Replace, Tag, Text}
use Rattle.teco_scan.specs.declared.command.RegisterCommand.{RegisterCommand}
use Rattle.teco_scan.specs.declared.command.TextCommand.{TextCommand}
use Rattle.teco_scan.specs.declared.command.Test as tests
use Rattle.teco_core.specs.declared.profile.Profile.{Profile}
use Rattle.teco_core.specs.declared.profile.Profile.TheVariants.{Named, Wide}
use Rattle.teco_scan.specs.declared.table.TheConstants.{ROWS, FIRST}
use Rattle.teco_scan.specs.Led.{IsLed, form_in}
use Rattle.teco_scan.specs.Spelling.{test_form}
use Rattle.teco_scan.specs.Scan.{rows_of, scan, Reading, Instruction, TokenMeaning, no_modifiers, admits, after_letter, after_name, at_row, row_at, is_cut, of_row, command_at, modifiers_at, operand_at, begins_run, token_from, scanned, after_fillers, run_of, after_run, register_at, text_at, delimiter_at, test_at, step, digits, register, text, decide, tag}
use Rattle.teco_scan.specs.Table.{begins_with}
use Rattle.teco_scan.specs.FirstRow.{none_begins, is_whole, is_whole_first, picks, form_of, form_at, named_at, with_operand}
use Rattle.teco_scan.proofs.SpelledReads.{both}

unfoldable is_so_below : ℕ → (ℕ → Bool) → Bool
is_so_below zero p = true
is_so_below (suc n) p = p n && is_so_below n p

so_below : (n : ℕ) (p : ℕ → Bool) → is_so_below n p ≡ true → (b : ℕ) → b < n → p b ≡ true
unfolding is_so_below
so_below zero p h b lt = absurd (omega arith)
so_below (suc n) p h b lt =
    let below : b < n → p b ≡ true = so_below n p (both (p n) (is_so_below n p) h).1 b in
    let last : p n ≡ true = (both (p n) (is_so_below n p) h).0 in
    let most : b ≤ n = omega arith in
    elim (eq-or-lt_of_le most) [ inl same ↦ ap p same ∙ last | inr less ↦ below less ]

-- where a byte leads by the table of first rows
abbrev pub row_of : ℕ → ℕ
row_of b = slice_index_or (slice_index_or FIRST (b / 16) []) (b % 16) 0

-- each byte leads to its row, in both tables
bytes_picked : (p : Profile) → is_so_below 256 (λ b. picks (rows_of p) (row_of b) b) ≡ true
unfolding is_so_below
bytes_picked Named = refl
bytes_picked Wide = refl

pub picked : (p : Profile) (b : ℕ) → b < 256 → picks (rows_of p) (row_of b) b ≡ true
picked p b lt = so_below 256 (λ b. picks (rows_of p) (row_of b) b) (bytes_picked p) b lt

-- the table is read in lines
pub row_is : (b u : ℕ) (default : List ℕ) → b < 256 → u ≡ b → slice_index_or (slice_index_or FIRST (u / 16) default) (u % 16) 0 ≡ row_of b
row_is b u default lt is =
    ap (λ (l : List ℕ). slice_index_or l (u % 16) 0) (get_or_default FIRST (u / 16) default [] (omega (arith, is)))
    ∙ ap (λ u. slice_index_or (slice_index_or FIRST (u / 16) []) (u % 16) 0) is

bytes_inside : is_so_below 256 (λ b. nat_le (row_of b) (length ROWS)) ≡ true
unfolding is_so_below
bytes_inside = refl

pub row_inside : (b : ℕ) → b < 256 → row_of b ≤ length ROWS
row_inside b lt = leb-true (row_of b) (length ROWS) (so_below 256 (λ b. nat_le (row_of b) (length ROWS)) bytes_inside b lt)

neither : (a b : Bool) → (a || b) ≡ false → (a ≡ false) × (b ≡ false)
neither true b e = absurd cc
neither false b e = (refl, e)

pub not_so : (a : Bool) → not a ≡ true → a ≡ false
not_so true e = absurd cc
not_so false e = refl

pub begins_none : (n : Name) (b : ℕ) (bs : List ℕ) → begins_with n b ≡ false → after_name n (b ∷ bs) ≡ None
unfolding after_name after_letter
begins_none (One l) b bs e = rw e
begins_none (Two l k) b bs e = rw e
begins_none (Three l k j) b bs e = rw e
begins_none (Control l) b bs e = let p = neither (b + 64 == l) (b == 94) e in rw (p.0, p.1)

-- rows that no name with the byte is in are passed
pub rows_passed : (n : ℕ) (rows : List Row) (m : Modifiers) (b : ℕ) (bs : List ℕ) → none_begins (take n rows) b ≡ true → row_at rows m (b ∷ bs) ≡ row_at (drop n rows) m (b ∷ bs)
unfolding row_at
rows_passed zero rows m b bs h = refl
rows_passed (suc n) [] m b bs h = refl
rows_passed (suc n) (r ∷ rows) m b bs h =
    let p = both (not (begins_with r.name b)) (none_begins (take n rows) b) h in
    let others : Option (Row × List ℕ) = row_at rows m (b ∷ bs) in
    ap (λ o. cond (admits r m) (at_row r o others) others) (begins_none r.name b bs (not_so (begins_with r.name b) p.0))
    ∙ elim (admits r m) as (λ v. cond v others others ≡ others) [ true ↦ refl | false ↦ refl ]
    ∙ rows_passed n rows m b bs p.1

zero_le : (n : ℕ) → nat_le 0 n ≡ true
zero_le n = le-leb 0 n (omega arith)

row_here : (r : Row) (more : List Row) (l b : ℕ) (bs : List ℕ) → r.name ≡ One l → (upper b == l) ≡ true → row_at (r ∷ more) no_modifiers (b ∷ bs) ≡ Some (r, bs)
unfolding row_at after_name after_letter
row_here r more l b bs named letter =
    let others : Option (Row × List ℕ) = row_at more no_modifiers (b ∷ bs) in
    ap (λ v. cond v (at_row r (after_name r.name (b ∷ bs)) others) others) (zero_le r.allows.colons)
    ∙ ap (λ n. at_row r (after_name n (b ∷ bs)) others) named
    ∙ ap (λ v. at_row r (cond v (Some bs) None) others) letter

none_marked : (b : ℕ) (bs : List ℕ) → (b == 64) ≡ false → (b == 58) ≡ false → modifiers_at no_modifiers (b ∷ bs) ≡ Ok (no_modifiers, b ∷ bs)
unfolding modifiers_at
none_marked b bs at colon = rw (at, colon)

-- a byte that is the whole name of its row names that row's command, whatever follows it
pub lone_named : (n b l : ℕ) (r default : Row) → picks ROWS n b ≡ true → n < length ROWS → r ≡ slice_index_or ROWS n default → r.name ≡ One l → (bs : List ℕ) → named_at ROWS (b ∷ bs) ≡ Ok ((no_modifiers, r.form), bs)
unfolding named_at
lone_named n b l r default h lt is named bs =
    let p = both (none_begins (take n ROWS) b) (is_whole_first (drop n ROWS) b) h in
    let here : drop n ROWS ≡ r ∷ drop (suc n) ROWS = drop-cons ROWS n default lt ∙ ap (λ x. x ∷ drop (suc n) ROWS) (sym is) in
    let whole : is_whole (One l) b ≡ true = sym (ap (λ (x : Name). is_whole x b) named) ∙ sym (ap (λ (rows : List Row). is_whole_first rows b) here) ∙ p.1 in
    let q = both ((upper b == l) && not (b == 64)) (not (b == 58)) whole in
    let o = both (upper b == l) (not (b == 64)) q.0 in
    let row : row_at ROWS no_modifiers (b ∷ bs) ≡ Some (r, bs) = rows_passed n ROWS no_modifiers b bs p.0 ∙ ap (λ (rows : List Row). row_at rows no_modifiers (b ∷ bs)) here ∙ row_here r (drop (suc n) ROWS) l b bs named o.0 in
    ap (λ (x : Reading Modifiers). x >>= (λ m. form_at ROWS m.0 m.1 >>= (λ f. Ok ((m.0, f.0), f.1)))) (none_marked b bs (not_so (b == 64) o.1) (not_so (b == 58) q.1))
    ∙ ap (λ (x : Option (Row × List ℕ)). form_of ROWS no_modifiers (b ∷ bs) x >>= (λ f. Ok ((no_modifiers, f.0), f.1))) row

-- the rows from the byte's own on are all that a command there can be of
pub rows_here : (rows : List Row) (n : ℕ) (xs : List ℕ) (at : ℕ) → at < length xs → picks rows n (get_or xs at 0) ≡ true → (m : Modifiers) → row_at (drop n rows) m (drop at xs) ≡ row_at rows m (drop at xs)
rows_here rows n xs at lt h m =
    let p = both (none_begins (take n rows) (get_or xs at 0)) (is_whole_first (drop n rows) (get_or xs at 0)) h in
    ap (row_at (drop n rows) m) (front xs at lt) ∙ sym (rows_passed n rows m (get_or xs at 0) (drop (at + 1) xs) p.0) ∙ ap (row_at rows m) (sym (front xs at lt))

-- the form of a command, by the row that was found among these
pub form_read : (rows : List Row) (n : ℕ) (m : Modifiers) (xs : List ℕ) (found : Option (Row × List ℕ)) → row_at (drop n rows) m xs ≡ row_at rows m xs → row_at (take (length rows - n) (drop n rows)) m xs ≡ found → form_at rows m xs ≡ form_of rows m xs found
form_read rows n m xs found same read = ap (form_of rows m xs) (sym same ∙ ap (λ (rows : List Row). row_at rows m xs) (sym (take_rest rows n)) ∙ read)

abbrev pub ordered : Modifiers → Reading Instruction → Reading TokenMeaning
ordered m r = do
  i ← r
  Ok (record { modifiers = m; instruction = i.0 }, i.1)

abbrev pub paired : Modifiers → Reading Form → Reading (Modifiers × Form)
paired m r = do
  f ← r
  Ok ((m, f.0), f.1)

by_row : (rows : List Row) (m : Modifiers) (bs : List ℕ) (o : Option (Row × List ℕ)) → ordered m (of_row rows m bs o) ≡ with_operand (paired m (form_of rows m bs o))
by_row rows m bs (Some r) = refl
by_row rows m bs None = elim (is_cut rows m bs) as (λ v. ordered m (if v then Err Utc else Err Ill) ≡ with_operand (paired m (if v then Err Utc else Err Ill))) [ true ↦ refl | false ↦ refl ]

by_modifiers : (rows : List Row) (r : Reading Modifiers) → (r >>= (λ m. ordered m.0 (command_at rows m.0 m.1))) ≡ with_operand (r >>= (λ m. paired m.0 (form_at rows m.0 m.1)))
unfolding command_at
by_modifiers rows (Err e) = refl
by_modifiers rows (Ok m) = by_row rows m.0 m.1 (row_at rows m.0 m.1)

pub token_named : (rows : List Row) (bs : List ℕ) → begins_run bs ≡ false → token_from rows bs ≡ with_operand (named_at rows bs)
unfolding token_from named_at
token_named rows bs e = rw e (by_modifiers rows (modifiers_at no_modifiers bs))

-- no digit, no run of digits
pub no_run : (xs : List ℕ) (at : ℕ) → at < length xs → is_digit (get_or xs at 0) ≡ false → begins_run (drop at xs) ≡ false
no_run xs at lt e = ap begins_run (front xs at lt) ∙ e

-- A run of digits is read.
pub run_read : (rows : List Row) (xs : List ℕ) (at to : ℕ) → at < length xs → is_digit (get_or xs at 0) ≡ true → drop to xs ≡ after_run (drop at xs) → take (to - at) (drop at xs) ≡ run_of (drop at xs)
    → token_from rows (drop at xs) ≡ Ok (record { modifiers = no_modifiers; instruction = step (digits (take (to - at) (drop at xs))) }, drop to xs)
unfolding token_from
run_read rows xs at to lt e rest run = rw (ap begins_run (front xs at lt) ∙ e, run, rest)

-- what is scanned where a command of this form is named up to a place, and this follows it
pub named_read : (rows : List Row) (xs : List ℕ) (at to : ℕ) (form : Form) (r : Reading Instruction) → at < length xs → is_digit (get_or xs at 0) ≡ false
    → named_at rows (drop at xs) ≡ Ok ((no_modifiers, form), drop to xs)
    → operand_at form no_modifiers (drop to xs) ≡ r → scanned (ordered no_modifiers r) ≡ scanned (token_from rows (drop at xs))
named_read rows xs at to form r lt e named operand =
    sym (ap scanned (token_named rows (drop at xs) (no_run xs at lt e) ∙ ap with_operand named ∙ ap (ordered no_modifiers) operand))

-- what is scanned where the byte at a place alone names a command of this form, and this follows it
pub lone_read : (rows : List Row) (xs : List ℕ) (at : ℕ) (form : Form) (r : Reading Instruction) → at < length xs → is_digit (get_or xs at 0) ≡ false
    → ((bs : List ℕ) → named_at rows (get_or xs at 0 ∷ bs) ≡ Ok ((no_modifiers, form), bs))
    → operand_at form no_modifiers (drop (at + 1) xs) ≡ r → scanned (ordered no_modifiers r) ≡ scanned (token_from rows (drop at xs))
lone_read rows xs at form r lt e named operand =
    named_read rows xs at (at + 1) form r lt e (ap (named_at rows) (front xs at lt) ∙ named (drop (at + 1) xs)) operand

-- of the rows without modifiers, that of `FS` is the one that begins so
replace_named : (p : Profile) (bs : List ℕ) → named_at (rows_of p) (70 ∷ 83 ∷ bs) ≡ Ok ((no_modifiers, Replace), bs)
unfolding named_at modifiers_at row_at after_name after_letter
replace_named Named bs = refl
replace_named Wide bs = refl

-- `FS` at a place names its command
pub replace_here : (p : Profile) (xs : List ℕ) (at : ℕ) → at + 1 < length xs → get_or xs at 0 ≡ 70 → get_or xs (at + 1) 0 ≡ 83
    → named_at (rows_of p) (drop at xs) ≡ Ok ((no_modifiers, Replace), drop (at + 2) xs)
replace_here p xs at lt first second =
    let here : drop at xs ≡ get_or xs at 0 ∷ drop (at + 1) xs = front xs at (omega (arith, lt)) in
    let next : drop (at + 1) xs ≡ get_or xs (at + 1) 0 ∷ drop (at + 1 + 1) xs = front xs (at + 1) lt in
    let two : at + 1 + 1 ≡ at + 2 = omega arith in
    rw (here, next, first, second, two) (replace_named p (drop (at + 2) xs))

-- what follows a command on a register
pub register_read : (form : Form) (c : RegisterCommand) (bs : List ℕ) (r : Reading ℕ) → form ≡ Register c → register_at bs ≡ r
    → operand_at form no_modifiers bs ≡ (r >>= (λ q. Ok (step (register c q.0), q.1)))
unfolding operand_at
register_read form c bs r is read = ap (λ (f : Form). operand_at f no_modifiers bs) is ∙ ap (λ (x : Reading ℕ). x >>= (λ q. Ok (step (register c q.0), q.1))) read

-- what follows a tag's first `!`
pub tag_read : (form : Form) (bs : List ℕ) (r : Reading (List ℕ)) → form ≡ Tag → text_at 33 bs ≡ r
    → operand_at form no_modifiers bs ≡ (r >>= (λ t. Ok (tag t.0, t.1)))
unfolding operand_at
tag_read form bs r is read = ap (λ (f : Form). operand_at f no_modifiers bs) is ∙ ap (λ (x : Reading (List ℕ)). x >>= (λ t. Ok (tag t.0, t.1))) read

-- what follows a plain command with one text
pub text_read : (form : Form) (c : TextCommand) (usual : ℕ) (bs : List ℕ) (r : Reading (List ℕ)) → form ≡ Text c usual → text_at usual bs ≡ r
    → operand_at form no_modifiers bs ≡ (r >>= (λ t. Ok (step (text c t.0), t.1)))
unfolding operand_at delimiter_at
text_read form c usual bs r is read = ap (λ (f : Form). operand_at f no_modifiers bs) is ∙ ap (λ (x : Reading (List ℕ)). x >>= (λ t. Ok (step (text c t.0), t.1))) read

-- what follows a plain `"`
pub test_read : (p : Profile) (bs : List ℕ) (r : Reading tests.Test) → test_at p bs ≡ r → operand_at (test_form p) no_modifiers bs ≡ (r >>= (λ t. Ok (decide t.0, t.1)))
unfolding operand_at
test_read Named bs r read = ap (λ (x : Reading tests.Test). x >>= (λ t. Ok (decide t.0, t.1))) read
test_read Wide bs r read = ap (λ (x : Reading tests.Test). x >>= (λ t. Ok (decide t.0, t.1))) read

-- what is scanned from a place on where a byte alone names a command of this form, and this follows it
pub led_read : (p : Profile) (xs : List ℕ) (at from : ℕ) (f : Form) (r : Reading Instruction) → IsLed xs at from f → operand_at (form_in p f) no_modifiers (drop (from + 1) xs) ≡ r → scanned (ordered no_modifiers r) ≡ scan p (drop at xs)
led_read p xs at from f r led operand =
    lone_read (rows_of p) xs from (form_in p f) r led.begins.inside led.no_digit (led.named p) operand ∙ sym (scan_found p xs at from led.begins.inside led.begins.rest)

-- what is scanned where no digit is, by the command that is read there
pub command_read : (p : Profile) (xs : List ℕ) (at from : ℕ) (r : Reading TokenMeaning) → from < length xs → drop from xs ≡ after_fillers (drop at xs) → is_digit (get_or xs from 0) ≡ false
    → with_operand (named_at (rows_of p) (drop from xs)) ≡ r → scanned r ≡ scan p (drop at xs)
command_read p xs at from r lt rest e read = sym (scan_found p xs at from lt rest ∙ ap scanned (token_named (rows_of p) (drop from xs) (no_run xs from lt e) ∙ read))
