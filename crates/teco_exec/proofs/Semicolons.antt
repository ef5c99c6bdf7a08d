-- `;` without modifiers comes next exactly where the first byte after fillers is `;`.
use Rattle.std.proofs.Common.{◌≡◌, ◌<◌, ◌≤◌, length, drop, get_or, ℕ, ◌+◌, ◌++◌, Bool, true, false, not, ◌||◌, List, [], ◌∷◌, Ok, Err, refl, sym, ap, subst, ◌∙◌, inl, inr, arith, ◌==◌, if◌then◌else◌}
use Rattle.std.specs.Cmp.{both_ways}
use Rattle.std.specs.List.{list_all}
use Rattle.std.proofs.lemmas.Bool.{eqb-true}
use Rattle.std.proofs.lemmas.Bool.Decides.{nat_tests}
use Rattle.std.proofs.lemmas.List.{at_drop_more, at_drop_all}
use Rattle.teco_scan.specs.declared.command.Bare.TheVariants as bares
use Rattle.teco_scan.specs.declared.command.Command.TheVariants as commands
use Rattle.teco_scan.specs.declared.command.Form.{Form}
use Rattle.teco_scan.specs.declared.command.Form.TheVariants as form
use Rattle.teco_scan.specs.declared.command.Modifiers.{Modifiers}
use Rattle.teco_scan.specs.declared.command.Name.{Name}
use Rattle.teco_scan.specs.declared.command.Name.TheVariants.{One}
use Rattle.teco_scan.specs.declared.command.Row.{Row}
use Rattle.teco_core.specs.declared.profile.Profile.{Profile}
use Rattle.teco_core.specs.declared.profile.Profile.TheVariants.{Named, Wide}
use Rattle.teco_core.specs.Ascii.{is_filler}
use Rattle.teco_scan.specs.Scan.{rows_of, Instruction, TokenMeaning, Reading, found, scanned, scan, scan_here, after_fillers, after_letter, after_name, row_at, command_at, operand_at, modifiers_at, token_from}
use Rattle.teco_scan.specs.Spelling.{Marks, no_mark, at_mark, colon_mark, SpellsName, one_spelled, SpellsOperand, bare_spelled, Among, Spells, run_spelled, command_spelled, IsSpelled}
use Rattle.teco_exec.specs.CursorMoves.{leave_is_next}
use Rattle.teco_exec.specs.Semicolon.{is_semicolon}

abbrev is_leave_form : Form → Bool
is_leave_form (form.Bare (bares.Command commands.Leave)) = true
is_leave_form f = false

abbrev is_semicolon_name : Name → Bool
is_semicolon_name (One l) = l == 59
is_semicolon_name n = false

-- Only `;` names it.
abbrev names_so : Row → Bool
names_so r = not (is_leave_form r.form) || is_semicolon_name r.name

row_names : (row : Row) (rows : List Row) → Among row rows → list_all names_so rows ≡ true → is_leave_form row.form ≡ true → is_semicolon_name row.name ≡ true
row_names row [] among all is = absurd among
row_names row (r ∷ rows) (inl same) all is = subst (λ (r : Row). is_leave_form r.form ≡ true → is_semicolon_name r.name ≡ true) (sym same) (λ is. grind arith) is
row_names row (r ∷ rows) (inr later) all is = row_names row rows later (grind arith) is

spells_semicolon : {n : Name} {bs : List ℕ} (more rest : List ℕ) → SpellsName n bs → is_semicolon_name n ≡ true → is_semicolon ((bs ++ more) ++ rest) ≡ true
spells_semicolon more rest (one_spelled e) is = grind (arith, nat_tests)
spells_semicolon more rest s is = absurd cc

abbrev is_plain : Modifiers → Bool
is_plain m = if m.at then false else m.colons == 0

counts : (m : Modifiers) → is_plain (record m { colons = m.colons + 1 }) ≡ true → ⊥
counts m e = grind (arith, nat_tests)

-- No modifier is taken back.
no_marks : {m n : Modifiers} {bs : List ℕ} → Marks m bs n → is_plain n ≡ true → (bs ≡ []) × (is_plain m ≡ true)
no_marks no_mark is = (refl, is)
no_marks (at_mark one s) is = let e = (no_marks s is).1 in absurd cc
no_marks (colon_mark {m = m} few s) is = absurd (counts m (no_marks s is).1)

-- a token
operand_leaves : {f : Form} {m : Modifiers} {i : Instruction} {bs : List ℕ} (rest : List ℕ) → SpellsOperand f m i bs → leave_is_next (found (record { modifiers = m; instruction = i }) rest) ≡ true
    → (is_plain m ≡ true) × (is_leave_form f ≡ true)
operand_leaves rest (bare_spelled {c = bares.Command commands.Leave}) e = (e, refl)
operand_leaves rest (bare_spelled {c = c}) e = absurd cc
operand_leaves rest s e = absurd cc

all_named : (p : Profile) → list_all names_so (rows_of p) ≡ true
unfolding is_leave_form is_semicolon_name names_so
all_named Named = refl
all_named Wide = refl

token_leaves : (p : Profile) {t : TokenMeaning} {bs : List ℕ} (rest : List ℕ) → Spells (rows_of p) t bs → leave_is_next (found t rest) ≡ true → is_semicolon (bs ++ rest) ≡ true
token_leaves p rest (run_spelled some digits) e = absurd cc
token_leaves p rest (command_spelled row operand b so) e =
    let is = operand_leaves rest so e in
    rw (b.whole, (no_marks b.marked is.0).0) (spells_semicolon operand rest b.named (row_names row (rows_of p) b.among (all_named p) is.1))

leads : (p : Profile) → IsSpelled (rows_of p) → (bs : List ℕ) → leave_is_next (scanned (token_from (rows_of p) bs)) ≡ true → is_semicolon bs ≡ true
leads p spelled bs = by (token_from (rows_of p) bs) (λ t rest. spelled bs rest t)
  where
    by : (r : Reading TokenMeaning) → ((t : TokenMeaning) (rest : List ℕ) → r ≡ Ok (t, rest) → (front : List ℕ) × Spells (rows_of p) t front × (bs ≡ front ++ rest)) → leave_is_next (scanned r) ≡ true → is_semicolon bs ≡ true
    by (Ok x) read e = let s = read x.0 x.1 refl in ap is_semicolon s.2 ∙ token_leaves p x.1 s.1 e
    by (Err c) read e = absurd cc

semicolon_leaves : (p : Profile) (bs : List ℕ) → leave_is_next (scanned (token_from (rows_of p) (59 ∷ bs))) ≡ true
unfolding token_from modifiers_at command_at row_at after_name after_letter operand_at
semicolon_leaves Named bs = refl
semicolon_leaves Wide bs = refl

leave_here : (p : Profile) → IsSpelled (rows_of p) → (xs : List ℕ) → is_semicolon xs ≡ leave_is_next (scan_here p xs)
leave_here p spelled [] = refl
leave_here p spelled (b ∷ bs) = both_ways (b == 59) (leave_is_next (scanned (token_from (rows_of p) (b ∷ bs))))
    (λ e. subst (λ b. leave_is_next (scanned (token_from (rows_of p) (b ∷ bs))) ≡ true) (sym (eqb-true b 59 e)) (semicolon_leaves p bs))
    (leads p spelled (b ∷ bs))

pub leave_comes : (p : Profile) → IsSpelled (rows_of p) → (bs : List ℕ) → is_semicolon (after_fillers bs) ≡ leave_is_next (scan p bs)
unfolding scan
leave_comes p spelled bs = leave_here p spelled (after_fillers bs)

-- The bytes before are fillers.
pub passed_filler : (xs : List ℕ) (i d : ℕ) → i < length xs → is_filler (get_or xs i d) ≡ true → after_fillers (drop i xs) ≡ after_fillers (drop (i + 1) xs)
unfolding after_fillers
passed_filler xs i d lt e = at_drop_more after_fillers xs i d lt ∙ ap (λ x. if x then after_fillers (drop (i + 1) xs) else get_or xs i d ∷ drop (i + 1) xs) e

pub no_filler : (xs : List ℕ) (i d : ℕ) → i < length xs → is_filler (get_or xs i d) ≡ false → is_semicolon (after_fillers (drop i xs)) ≡ (get_or xs i d == 59)
unfolding after_fillers
no_filler xs i d lt e = ap is_semicolon (at_drop_more after_fillers xs i d lt) ∙ ap (λ x. is_semicolon (if x then after_fillers (drop (i + 1) xs) else get_or xs i d ∷ drop (i + 1) xs)) e

pub all_fillers : (xs : List ℕ) (i : ℕ) → length xs ≤ i → after_fillers (drop i xs) ≡ []
unfolding after_fillers
all_fillers xs i le = at_drop_all after_fillers xs i le
