-- What is read in Named is read in Wide too.
use Rattle.std.proofs.Common.{◌≡◌, ℕ, ◌+◌, Bool, true, false, cond, List, [], ◌∷◌, map, Option, Some, None, Ok, Err, refl, sym, ap, subst, ◌∙◌, arith, leb-true}
use Rattle.std.specs.Prelude.{◌<◌, ◌&&◌, ◌||◌, not, ◌==◌, if◌then◌else◌, length, nat_le, slice_index_or}
use Rattle.std.specs.List.{list_all}
use Rattle.std.proofs.lemmas.Bool.{le-leb}
use Rattle.std.proofs.lemmas.List.Folds.{list_all_at}
use Rattle.teco_core.specs.declared.code.Code.TheVariants.{Ill, Iqc, Utc}
use Rattle.teco_core.specs.Refusal.{◌>>=◌}
use Rattle.teco_core.specs.Ascii.{upper}
use Rattle.teco_scan.specs.declared.command.Modifiers.{Modifiers}
use Rattle.teco_scan.specs.declared.command.Row.{Row}
use Rattle.teco_scan.specs.declared.command.Name.{Name}
use Rattle.teco_scan.specs.declared.command.Name.TheVariants.{One, Two, Three, Control}
use Rattle.teco_scan.specs.declared.command.Form.{Form}
use Rattle.teco_scan.specs.declared.command.Form.TheVariants as form
use Rattle.teco_scan.specs.declared.command.Test.{Test}
use Rattle.teco_scan.specs.declared.command.Bare.TheVariants as group
use Rattle.teco_scan.specs.declared.command.Command.TheVariants.{PrintHexadecimal}
use Rattle.teco_scan.specs.declared.command.LevelCommand.TheVariants.{Distance}
use Rattle.teco_scan.specs.declared.command.TextCommand.TheVariants.{FindAndDelete, FindAndKill}
use Rattle.teco_core.specs.declared.ascii.TheConstants.{ESC}
use Rattle.teco_core.specs.declared.profile.Profile.{Profile}
use Rattle.teco_core.specs.declared.profile.Profile.TheVariants.{Named, Wide}
use Rattle.teco_scan.specs.declared.table.TheConstants.{ROWS, WIDE_ROWS}
use Rattle.teco_scan.specs.Scan.{decide, step, digits, run_of, after_run, Reading, Instruction, TokenMeaning, found, scanned, no_modifiers, or_else, or_more, letter_test, rows_of, scan_here, scan, test_of, test_at, byte_at, operand_at, admits, after_name, at_row, row_at, is_cut, is_refused, modifiers_at, begins_run, token_from, after_fillers}
use Rattle.teco_scan.specs.FirstRow.{form_of, form_at, named_at, with_operand}
use Rattle.teco_scan.specs.Led.{form_in}
use Rattle.teco_scan.specs.Table.{is_name, meets}
use Rattle.teco_scan.specs.Spelling.{SpellsName}
use Rattle.teco_scan.specs.Wide.{WideKeeps}
use Rattle.teco_scan.proofs.IsSpelled.{TakesSome, TakesRow, name_takes, row_takes}
use Rattle.teco_scan.proofs.SpelledReads.{both, each, meet}
use Rattle.teco_scan.proofs.FirstRow.{not_so, ordered, paired, token_named}

-- the names of the rows that admit a colon more
abbrev pub has_colon : Name → Bool
has_colon (One l) = l == 88 || l == 80 || l == 65 || l == 89 || l == 59
has_colon (Two l k) = l == 70 && k == 83
has_colon (Control l) = l == 85
has_colon n = false

-- what is the command of a name that Named refuses
abbrev form_more : Name → Form
form_more (One l) = form.Refused
form_more (Two l k) = form.Text (if k == 68 then FindAndDelete else FindAndKill) ESC
form_more (Three l k j) = form.Bare (group.Command PrintHexadecimal)
form_more (Control l) = form.Bare (group.Level Distance)

abbrev pub wide_form : Row → Form
wide_form r = if is_refused r.form then form_more r.name else form_in Wide r.form

abbrev pub wide_row : Row → Row
wide_row r = record { name = r.name; allows = record { at = r.allows.at; colons = if has_colon r.name then r.allows.colons + 1 else r.allows.colons }; form = wide_form r }

-- So the rows of Wide are those of Named.
pub wide_rows : WIDE_ROWS ≡ map wide_row ROWS
wide_rows = refl

-- what a row of Named admits that of Wide admits too
more_colons : (n k : ℕ) (v : Bool) → nat_le n k ≡ true → nat_le n (if v then k + 1 else k) ≡ true
more_colons n k true e = le-leb n (k + 1) (omega (arith, leb-true n k e))
more_colons n k false e = e

pub still_admits : (r : Row) (m : Modifiers) → admits r m ≡ true → admits (wide_row r) m ≡ true
still_admits r m e =
    let p = both (if m.at then r.allows.at else true) (nat_le m.colons r.allows.colons) e in
    rw (p.0, more_colons m.colons r.allows.colons (has_colon r.name) p.1)

-- no name of a row that admits more is met by that of a later row
abbrev pub is_free : List Row → Bool
is_free [] = true
is_free (r ∷ rows) = (not (has_colon r.name) || list_all (λ s. not (meets r.name s.name)) rows) && is_free rows

abbrev pub are_named : List Row → Bool
are_named rows = list_all (λ r. is_name r.name) rows

pub same_admits : (r : Row) (m : Modifiers) → has_colon r.name ≡ false → admits (wide_row r) m ≡ admits r m
same_admits r m e = rw e

-- a later row is not found where the name of this one is there too
pub not_later : (r : Row) (rows : List Row) (m : Modifiers) (bs rest : List ℕ) (x : Row × List ℕ) → are_named (r ∷ rows) ≡ true → list_all (λ s. not (meets r.name s.name)) rows ≡ true → after_name r.name bs ≡ Some rest → row_at rows m bs ≡ Some x → ⊥
not_later r rows m bs rest x named free here later =
    let first : TakesSome (SpellsName r.name) bs (Some rest) = subst (TakesSome (SpellsName r.name) bs) here (name_takes r.name bs) in
    let other : TakesRow rows m bs (Some x) = subst (TakesRow rows m bs) later (row_takes rows m bs) in
    let names = both (is_name r.name) (are_named rows) named in
    let met : meets r.name x.0.name ≡ true = meet r.name x.0.name first.0 other.2.0 rest x.1 names.0 (each (λ r. is_name r.name) rows x.0 names.1 other.0) first.1 other.2.1 (sym first.2 ∙ other.2.2) in
    let none : not (meets r.name x.0.name) ≡ true = each (λ s. not (meets r.name s.name)) rows x.0 free other.0 in
    let wrong : not true ≡ true = subst (λ v. not v ≡ true) met none in
    cc

row_kept : (rows : List Row) (m : Modifiers) (bs : List ℕ) (x : Row × List ℕ) → are_named rows ≡ true → is_free rows ≡ true → row_at rows m bs ≡ Some x → row_at (map wide_row rows) m bs ≡ Some (wide_row x.0, x.1)
unfolding row_at
row_kept [] m bs x named free e = absurd cc
row_kept (r ∷ rows) m bs x named free e = here (row_kept rows m bs x names.1 frees.1) (admits r m) (admits (wide_row r) m) refl refl (has_colon r.name) refl (after_name r.name bs) refl e
  where
    names : (is_name r.name ≡ true) × (are_named rows ≡ true)
    names = both (is_name r.name) (are_named rows) named

    frees : ((not (has_colon r.name) || list_all (λ s. not (meets r.name s.name)) rows) ≡ true) × (is_free rows ≡ true)
    frees = both (not (has_colon r.name) || list_all (λ s. not (meets r.name s.name)) rows) (is_free rows) free

    here : (row_at rows m bs ≡ Some x → row_at (map wide_row rows) m bs ≡ Some (wide_row x.0, x.1)) → (v w : Bool) → admits r m ≡ v → admits (wide_row r) m ≡ w → (c : Bool) → has_colon r.name ≡ c → (o : Option (List ℕ)) → after_name r.name bs ≡ o → cond v (at_row r o (row_at rows m bs)) (row_at rows m bs) ≡ Some x
        → cond w (at_row (wide_row r) o (row_at (map wide_row rows) m bs)) (row_at (map wide_row rows) m bs) ≡ Some (wide_row x.0, x.1)
    here later true true a b c h None n is = later is
    here later true true a b c h (Some rest) n is = let same : (r, rest) ≡ x = cc in ap (λ (x : Row × List ℕ). Some (wide_row x.0, x.1)) same
    here later true false a b c h o n is = let wrong : false ≡ true = sym b ∙ still_admits r m a in absurd cc
    here later false false a b c h o n is = later is
    here later false true a b c h None n is = later is
    here later false true a b true h (Some rest) n is =
        absurd (not_later r rows m bs rest x named (subst (λ v. (not v || list_all (λ s. not (meets r.name s.name)) rows) ≡ true) h frees.0) n is)
    here later false true a b false h (Some rest) n is = let wrong : true ≡ false = sym b ∙ same_admits r m h ∙ a in absurd cc

pub names_well : are_named ROWS ≡ true
names_well = refl

pub rows_free : is_free ROWS ≡ true
rows_free = refl

pub not_ok : (v : Bool) (f : Form × List ℕ) → (if v then Err Utc else Err Ill) ≡ Ok f → ⊥
not_ok true f e = absurd cc
not_ok false f e = absurd cc

-- a row that Named does not refuse has its form in Wide
pub same_form : (r : Row) → is_refused r.form ≡ false → (wide_row r).form ≡ form_in Wide r.form
same_form r e = ap (λ v. if v then form_more r.name else form_in Wide r.form) e

-- The command that is named in Named is named in Wide.
form_kept : (m : Modifiers) (bs : List ℕ) (f : Form × List ℕ) → is_refused f.0 ≡ false → form_at ROWS m bs ≡ Ok f → form_at WIDE_ROWS m bs ≡ Ok (form_in Wide f.0, f.1)
form_kept m bs f had e = here (row_at ROWS m bs) refl e
  where
    here : (o : Option (Row × List ℕ)) → row_at ROWS m bs ≡ o → form_of ROWS m bs o ≡ Ok f → form_at WIDE_ROWS m bs ≡ Ok (form_in Wide f.0, f.1)
    here (Some x) is e =
        let same : (x.0.form, x.1) ≡ f = cc in
        let form : x.0.form ≡ f.0 = ap (λ (f : Form × List ℕ). f.0) same in
        ap (λ (rows : List Row). form_at rows m bs) wide_rows
        ∙ ap (form_of (map wide_row ROWS) m bs) (row_kept ROWS m bs x names_well rows_free is)
        ∙ ap (λ (f : Form). Ok (f, x.1)) (same_form x.0 (ap (λ (f : Form). is_refused f) form ∙ had))
        ∙ ap (λ (f : Form × List ℕ). Ok (form_in Wide f.0, f.1)) same
    here None is e = absurd (not_ok (is_cut ROWS m bs) f e)

pub named_kept : (bs : List ℕ) (x : (Modifiers × Form) × List ℕ) → is_refused x.0.1 ≡ false → named_at ROWS bs ≡ Ok x → named_at WIDE_ROWS bs ≡ Ok ((x.0.0, form_in Wide x.0.1), x.1)
unfolding named_at
named_kept bs x had e = here (modifiers_at no_modifiers bs) e
  where
    there : (m : Modifiers × List ℕ) (r : Reading Form) → form_at ROWS m.0 m.1 ≡ r → paired m.0 r ≡ Ok x → paired m.0 (form_at WIDE_ROWS m.0 m.1) ≡ Ok ((x.0.0, form_in Wide x.0.1), x.1)
    there m (Err c) is e = absurd cc
    there m (Ok f) is e =
        let same : ((m.0, f.0), f.1) ≡ x = cc in
        let form : x.0.1 ≡ f.0 = sym (ap (λ (x : (Modifiers × Form) × List ℕ). x.0.1) same) in
        ap (paired m.0) (form_kept m.0 m.1 f (sym (ap (λ (f : Form). is_refused f) form) ∙ had) is) ∙ ap (λ (x : (Modifiers × Form) × List ℕ). Ok ((x.0.0, form_in Wide x.0.1), x.1)) same

    here : (r : Reading Modifiers) → (r >>= (λ m. paired m.0 (form_at ROWS m.0 m.1))) ≡ Ok x → (r >>= (λ m. paired m.0 (form_at WIDE_ROWS m.0 m.1))) ≡ Ok ((x.0.0, form_in Wide x.0.1), x.1)
    here (Err c) e = absurd cc
    here (Ok m) e = there m (form_at ROWS m.0 m.1) refl e

-- In Named a form is itself.
named_form : (f : Form) → form_in Named f ≡ f
named_form (form.Bare c) = refl
named_form (form.Mark c) = refl
named_form form.Escape = refl
named_form (form.Register c) = refl
named_form form.Byte = refl
named_form form.Test = refl
named_form form.WideTest = refl
named_form (form.Text c d) = refl
named_form form.Tag = refl
named_form form.SetText = refl
named_form form.Replace = refl
named_form form.Refused = refl

-- A byte that alone names a command does so in both profiles.
pub lone_kept : (b : ℕ) (f : Form) → is_refused f ≡ false → ((bs : List ℕ) → named_at ROWS (b ∷ bs) ≡ Ok ((no_modifiers, f), bs)) → (p : Profile) (bs : List ℕ) → named_at (rows_of p) (b ∷ bs) ≡ Ok ((no_modifiers, form_in p f), bs)
lone_kept b f had named Named bs = named bs ∙ ap (λ (f : Form). Ok ((no_modifiers, f), bs)) (sym (named_form f))
lone_kept b f had named Wide bs = named_kept (b ∷ bs) ((no_modifiers, f), bs) had (named bs)

-- A name of one letter is not refused.
abbrev had_by : Name → Form → Bool
had_by (One l) f = not (is_refused f)
had_by n f = true

ones_had : list_all (λ r. had_by r.name r.form) ROWS ≡ true
ones_had = refl

pub one_had : (n l : ℕ) (r default : Row) → n < length ROWS → r ≡ slice_index_or ROWS n default → r.name ≡ One l → is_refused r.form ≡ false
one_had n l r default lt is named =
    let all : had_by r.name r.form ≡ true = subst (λ (r : Row). had_by r.name r.form ≡ true) (sym is) (of_each (had_by (slice_index_or ROWS n default).name (slice_index_or ROWS n default).form) refl) in
    not_so (is_refused r.form) (sym (ap (λ (n : Name). had_by n r.form) named) ∙ all)
  where
    of_each : (v : Bool) → had_by (slice_index_or ROWS n default).name (slice_index_or ROWS n default).form ≡ v → v ≡ true
    of_each true e = refl
    of_each false e = let wrong : false ≡ true = sym (list_all_at (λ r. had_by r.name r.form) ROWS n default lt e) ∙ ones_had in absurd cc

-- What is read after a name in Named is read in Wide.
test_kept : (bs : List ℕ) (x : Test × List ℕ) → test_at Named bs ≡ Ok x → test_at Wide bs ≡ Ok x
unfolding test_at byte_at test_of
test_kept [] x e = absurd cc
test_kept (b ∷ bs) x e = here (letter_test (upper b)) e
  where
    here : (o : Option Test) → (or_else o Iqc >>= (λ t. Ok (t, bs))) ≡ Ok x → (or_else (or_more o (upper b)) Iqc >>= (λ t. Ok (t, bs))) ≡ Ok x
    here (Some t) e = e
    here None e = absurd cc

test_operand_kept : (m : Modifiers) (bs : List ℕ) (x : Instruction × List ℕ) → operand_at form.Test m bs ≡ Ok x → operand_at form.WideTest m bs ≡ Ok x
unfolding operand_at
test_operand_kept m bs x e = here (test_at Named bs) refl e
  where
    here : (r : Reading Test) → test_at Named bs ≡ r → (r >>= (λ t. Ok (decide t.0, t.1))) ≡ Ok x → (test_at Wide bs >>= (λ t. Ok (decide t.0, t.1))) ≡ Ok x
    here (Err c) is e = absurd cc
    here (Ok t) is e = ap (λ (r : Reading Test). r >>= (λ t. Ok (decide t.0, t.1))) (test_kept bs t is) ∙ e

operand_kept : (f : Form) (m : Modifiers) (bs : List ℕ) (x : Instruction × List ℕ) → operand_at f m bs ≡ Ok x → operand_at (form_in Wide f) m bs ≡ Ok x
operand_kept (form.Bare c) m bs x e = e
operand_kept (form.Mark c) m bs x e = e
operand_kept form.Escape m bs x e = e
operand_kept (form.Register c) m bs x e = e
operand_kept form.Byte m bs x e = e
operand_kept form.Test m bs x e = test_operand_kept m bs x e
operand_kept form.WideTest m bs x e = e
operand_kept (form.Text c d) m bs x e = e
operand_kept form.Tag m bs x e = e
operand_kept form.SetText m bs x e = e
operand_kept form.Replace m bs x e = e
operand_kept form.Refused m bs x e = e

pub run_token : (rows : List Row) (bs : List ℕ) → begins_run bs ≡ true → token_from rows bs ≡ Ok (record { modifiers = no_modifiers; instruction = step (digits (run_of bs)) }, after_run bs)
unfolding token_from
run_token rows bs e = rw e

-- a refused name is ILL
pub refused_is_ill : (f : Form) (m : Modifiers) (bs : List ℕ) → is_refused f ≡ true → operand_at f m bs ≡ Err Ill
unfolding operand_at
refused_is_ill (form.Bare c) m bs e = absurd cc
refused_is_ill (form.Mark c) m bs e = absurd cc
refused_is_ill form.Escape m bs e = absurd cc
refused_is_ill (form.Register c) m bs e = absurd cc
refused_is_ill form.Byte m bs e = absurd cc
refused_is_ill form.Test m bs e = absurd cc
refused_is_ill form.WideTest m bs e = absurd cc
refused_is_ill (form.Text c d) m bs e = absurd cc
refused_is_ill form.Tag m bs e = absurd cc
refused_is_ill form.SetText m bs e = absurd cc
refused_is_ill form.Replace m bs e = absurd cc
refused_is_ill form.Refused m bs e = refl

refused_is_none : (f : Form) (m : Modifiers) (bs : List ℕ) (t : TokenMeaning × List ℕ) → is_refused f ≡ true → ordered m (operand_at f m bs) ≡ Ok t → ⊥
refused_is_none f m bs t had e = let wrong : Err Ill ≡ Ok t = sym (ap (ordered m) (refused_is_ill f m bs had)) ∙ e in cc

token_kept : (bs : List ℕ) (t : TokenMeaning × List ℕ) → token_from ROWS bs ≡ Ok t → token_from WIDE_ROWS bs ≡ Ok t
token_kept bs t e = here (begins_run bs) refl
  where
    operand : (n : (Modifiers × Form) × List ℕ) (r : Reading Instruction) → operand_at n.0.1 n.0.0 n.1 ≡ r → ordered n.0.0 r ≡ Ok t → ordered n.0.0 (operand_at (form_in Wide n.0.1) n.0.0 n.1) ≡ Ok t
    operand n (Err c) is e = absurd cc
    operand n (Ok i) is e = ap (ordered n.0.0) (operand_kept n.0.1 n.0.0 n.1 i is) ∙ e

    -- a name that is refused is no token
    by_form : (n : (Modifiers × Form) × List ℕ) (v : Bool) → is_refused n.0.1 ≡ v → named_at ROWS bs ≡ Ok n → with_operand (Ok n) ≡ Ok t → with_operand (named_at WIDE_ROWS bs) ≡ Ok t
    by_form n true had is e = absurd (refused_is_none n.0.1 n.0.0 n.1 t had e)
    by_form n false had is e = ap with_operand (named_kept bs n had is) ∙ operand n (operand_at n.0.1 n.0.0 n.1) refl e

    named : (r : Reading (Modifiers × Form)) → named_at ROWS bs ≡ r → with_operand r ≡ Ok t → with_operand (named_at WIDE_ROWS bs) ≡ Ok t
    named (Err c) is e = absurd cc
    named (Ok n) is e = by_form n (is_refused n.0.1) refl is e

    here : (v : Bool) → begins_run bs ≡ v → token_from WIDE_ROWS bs ≡ Ok t
    here true run = run_token WIDE_ROWS bs run ∙ sym (run_token ROWS bs run) ∙ e
    here false none = token_named WIDE_ROWS bs none ∙ named (named_at ROWS bs) refl (sym (token_named ROWS bs none) ∙ e)

here_kept : (bs rest : List ℕ) (t : TokenMeaning) → scan_here Named bs ≡ found t rest → scan_here Wide bs ≡ found t rest
here_kept [] rest t e = absurd cc
here_kept (b ∷ bs) rest t e = of_reading (token_from ROWS (b ∷ bs)) refl e
  where
    of_reading : (r : Reading TokenMeaning) → token_from ROWS (b ∷ bs) ≡ r → scanned r ≡ found t rest → scanned (token_from WIDE_ROWS (b ∷ bs)) ≡ found t rest
    of_reading (Err c) is e = absurd cc
    of_reading (Ok x) is e = ap scanned (token_kept (b ∷ bs) x is) ∙ e

-- What Named finds, Wide finds.
pub wide_keeps : WideKeeps
unfolding scan
wide_keeps bs rest t e = here_kept (after_fillers bs) rest t e
