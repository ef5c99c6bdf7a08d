-- What is read in Wide is read in Named, or is ILL or IQC there.
use Rattle.std.proofs.Common.{◌≡◌, ℕ, zero, suc, ◌+◌, ◌≤◌, Bool, true, false, cond, List, [], ◌∷◌, map, Option, Some, None, Ok, Err, ◌⊎◌, inl, inr, refl, sym, ap, subst, ◌∙◌, arith, leb-true}
use Rattle.std.specs.Prelude.{◌&&◌, ◌||◌, not, ◌==◌, if◌then◌else◌, nat_le, option_and_then}
use Rattle.std.specs.List.{list_all, list_any}
use Rattle.std.proofs.lemmas.Bool.{le-leb, eqb-true}
use Rattle.teco_core.specs.declared.code.Code.TheVariants.{Ill, Iqc, Utc}
use Rattle.teco_core.specs.Refusal.{◌>>=◌}
use Rattle.teco_core.specs.Ascii.{upper}
use Rattle.teco_scan.specs.declared.command.Modifiers.{Modifiers}
use Rattle.teco_scan.specs.declared.command.Row.{Row}
use Rattle.teco_scan.specs.declared.command.Name.{Name}
use Rattle.teco_scan.specs.declared.command.Name.TheVariants.{One, Two, Three, Control}
use Rattle.teco_scan.specs.declared.command.Form.{Form}
use Rattle.teco_scan.specs.declared.command.Form.TheVariants as form
use Rattle.teco_scan.specs.declared.command.Test.{Test}
use Rattle.teco_core.specs.declared.profile.Profile.TheVariants.{Named, Wide}
use Rattle.teco_scan.specs.declared.table.TheConstants.{ROWS, WIDE_ROWS}
use Rattle.teco_scan.specs.Scan.{decide, Reading, Instruction, TokenMeaning, found, fault, scanned, no_modifiers, or_else, or_more, letter_test, scan_here, scan, test_of, test_at, byte_at, operand_at, admits, after_letter, after_name, ends_inside, is_refused, at_row, row_at, is_cut, modifiers_at, begins_run, token_from, after_fillers}
use Rattle.teco_scan.specs.FirstRow.{form_of, form_at, named_at, with_operand}
use Rattle.teco_scan.specs.Led.{form_in}
use Rattle.teco_scan.specs.Spelling.{Among}
use Rattle.teco_scan.specs.Table.{is_name, meets, begins_with, first_bytes}
use Rattle.teco_scan.specs.Wide.{WideAdds}
use Rattle.teco_scan.proofs.SpelledReads.{both, each, any_here, any_next, any_cased}
use Rattle.teco_scan.proofs.FirstRow.{ordered, paired, token_named, begins_none}
use Rattle.teco_scan.proofs.Wider.{has_colon, wide_row, wide_rows, still_admits, same_admits, same_form, not_later, is_free, are_named, names_well, refused_is_ill, rows_free, not_ok, run_token}

-- a row that Wide found, and that does not admit the modifiers in Named
record Added (row : Row) (m : Modifiers) (bs : List ℕ) : Type 0 where
  pub unlike : admits row m ≡ false
  pub like : admits (wide_row row) m ≡ true
  pub more : has_colon row.name ≡ true
  pub rest : List ℕ
  pub here : after_name row.name bs ≡ Some rest

-- the row of Named that Wide's is made of, and what Named found
record Made (rows : List Row) (named : Option (Row × List ℕ)) (m : Modifiers) (bs : List ℕ) (x : Row × List ℕ) : Type 0 where
  pub row : Row
  pub is : x.0 ≡ wide_row row
  pub among : Among row rows
  pub way : (named ≡ Some (row, x.1)) ⊎ ((named ≡ None) × Added row m bs)

later_made : (r : Row) (rows : List Row) (named : Option (Row × List ℕ)) (m : Modifiers) (bs : List ℕ) (x : Row × List ℕ) → Made rows named m bs x → Made (r ∷ rows) named m bs x
later_made r rows named m bs x h = record { row = h.row; is = h.is; among = inr h.among; way = h.way }

row_made : (rows : List Row) (m : Modifiers) (bs : List ℕ) (x : Row × List ℕ) → are_named rows ≡ true → is_free rows ≡ true → row_at (map wide_row rows) m bs ≡ Some x → Made rows (row_at rows m bs) m bs x
unfolding row_at
row_made [] m bs x named free e = absurd cc
row_made (r ∷ rows) m bs x named free e = here (row_made rows m bs x names.1 frees.1) (admits r m) (admits (wide_row r) m) refl refl (has_colon r.name) refl (after_name r.name bs) refl e
  where
    names : (is_name r.name ≡ true) × (are_named rows ≡ true)
    names = both (is_name r.name) (are_named rows) named

    frees : ((not (has_colon r.name) || list_all (λ s. not (meets r.name s.name)) rows) ≡ true) × (is_free rows ≡ true)
    frees = both (not (has_colon r.name) || list_all (λ s. not (meets r.name s.name)) rows) (is_free rows) free

    nothing : (rest : List ℕ) → has_colon r.name ≡ true → after_name r.name bs ≡ Some rest → (o : Option (Row × List ℕ)) → row_at rows m bs ≡ o → row_at rows m bs ≡ None
    nothing rest h n None is = is
    nothing rest h n (Some y) is = absurd (not_later r rows m bs rest y named (subst (λ v. (not v || list_all (λ s. not (meets r.name s.name)) rows) ≡ true) h frees.0) n is)

    here : (row_at (map wide_row rows) m bs ≡ Some x → Made rows (row_at rows m bs) m bs x) → (v w : Bool) → admits r m ≡ v → admits (wide_row r) m ≡ w → (c : Bool) → has_colon r.name ≡ c → (o : Option (List ℕ)) → after_name r.name bs ≡ o
        → cond w (at_row (wide_row r) o (row_at (map wide_row rows) m bs)) (row_at (map wide_row rows) m bs) ≡ Some x
        → Made (r ∷ rows) (cond v (at_row r o (row_at rows m bs)) (row_at rows m bs)) m bs x
    here later true true a b c h None n is = later_made r rows (row_at rows m bs) m bs x (later is)
    here later true true a b c h (Some rest) n is =
        let same : (wide_row r, rest) ≡ x = cc in
        record { row = r; is = sym (ap (λ (x : Row × List ℕ). x.0) same); among = inl refl; way = inl (ap (λ (x : Row × List ℕ). Some (r, x.1)) same) }
    here later true false a b c h o n is = let wrong : false ≡ true = sym b ∙ still_admits r m a in absurd cc
    here later false false a b c h o n is = later_made r rows (row_at rows m bs) m bs x (later is)
    here later false true a b c h None n is = later_made r rows (row_at rows m bs) m bs x (later is)
    here later false true a b false h (Some rest) n is = let wrong : true ≡ false = sym b ∙ same_admits r m h ∙ a in absurd cc
    here later false true a b true h (Some rest) n is =
        let same : (wide_row r, rest) ≡ x = cc in
        record { row = r; is = sym (ap (λ (x : Row × List ℕ). x.0) same); among = inl refl; way = inr (nothing rest h n (row_at rows m bs) refl, record { unlike = a; like = b; more = h; rest = rest; here = n }) }

-- A name that admits a colon in Named begins otherwise than one that does in Wide alone, is refused, or both have two letters.
abbrev are_two : Name → Name → Bool
are_two (Two l k) (Two i j) = true
are_two n s = false

abbrev is_other : Name → Row → Bool
is_other n s = not (nat_le 1 s.allows.colons) || not (list_any (begins_with n) (first_bytes s.name)) || are_two n s.name

rows_other : list_all (λ r. not (has_colon r.name) || list_all (is_other r.name) ROWS) ROWS ≡ true
rows_other = refl

any_begun : (p : ℕ → Bool) (n : Name) (b : ℕ) → begins_with n b ≡ true → p b ≡ true → list_any p (first_bytes n) ≡ true
any_begun p (One l) b e h = any_cased p b l (eqb-true (upper b) l e) h
any_begun p (Two l k) b e h = any_cased p b l (eqb-true (upper b) l e) h
any_begun p (Three l k j) b e h = any_cased p b l (eqb-true (upper b) l e) h
any_begun p (Control l) b e h = control (b + 64 == l) refl e
  where
    control : (v : Bool) → (b + 64 == l) ≡ v → (v || b == 94) ≡ true → list_any p (first_bytes (Control l)) ≡ true
    control true is e = any_here p _ 94 (subst (λ w. p w ≡ true) (omega (arith, eqb-true (b + 64) l is)) h)
    control false is e = any_next p _ 94 (subst (λ w. p w ≡ true) (eqb-true b 94 e) h)

or_true : (v : Bool) → (v || true) ≡ true
or_true true = refl
or_true false = refl

inside_begins : (n : Name) (b : ℕ) (bs : List ℕ) → ends_inside n (b ∷ bs) ≡ true → begins_with n b ≡ true
unfolding ends_inside
inside_begins (One l) b bs e = absurd cc
inside_begins (Two l k) b [] e = e
inside_begins (Two l k) b (c ∷ bs) e = absurd cc
inside_begins (Three l k j) b [] e = e
inside_begins (Three l k j) b (c ∷ []) e = (both (upper b == l) (upper c == k) e).0
inside_begins (Three l k j) b (c ∷ d ∷ bs) e = absurd cc
inside_begins (Control l) b [] e = ap (λ v. b + 64 == l || v) e ∙ or_true (b + 64 == l)
inside_begins (Control l) b (c ∷ bs) e = absurd cc

-- bytes that begin with two letters end inside no other two
both_there : (n s : Name) (b : ℕ) (bs rest : List ℕ) → are_two n s ≡ true → after_name n (b ∷ bs) ≡ Some rest → ends_inside s (b ∷ bs) ≡ false
unfolding after_name after_letter ends_inside
both_there (Two l k) (Two i j) b (c ∷ bs) rest two here = refl
both_there (Two l k) (Two i j) b [] rest two here = elim (upper b == l) as (λ v. option_and_then (after_letter k) (if v then Some [] else None) ≡ Some rest → (upper b == i) ≡ false) [
  | true ↦ λ e. absurd cc
  | false ↦ λ e. absurd cc
] here
both_there (Two l k) (One i) b bs rest two here = absurd cc
both_there (Two l k) (Three i j h) b bs rest two here = absurd cc
both_there (Two l k) (Control i) b bs rest two here = absurd cc
both_there (One l) s b bs rest two here = absurd cc
both_there (Three l k j) s b bs rest two here = absurd cc
both_there (Control l) s b bs rest two here = absurd cc

-- No name of a command that admits colons is cut there.
uncut : (n : Name) (rows : List Row) (m : Modifiers) (b : ℕ) (bs rest : List ℕ) → nat_le 1 m.colons ≡ true → begins_with n b ≡ true → after_name n (b ∷ bs) ≡ Some rest → list_all (is_other n) rows ≡ true → is_cut rows m (b ∷ bs) ≡ false
unfolding is_cut
uncut n [] m b bs rest some begins there other = refl
uncut n (r ∷ rows) m b bs rest some begins there other = here (admits r m) refl (ends_inside r.name (b ∷ bs)) refl (uncut n rows m b bs rest some begins there others.1)
  where
    others : (is_other n r ≡ true) × (list_all (is_other n) rows ≡ true)
    others = both (is_other n r) (list_all (is_other n) rows) other

    colon : admits r m ≡ true → nat_le 1 r.allows.colons ≡ true
    colon e =
        let fits : m.colons ≤ r.allows.colons = leb-true m.colons r.allows.colons (both (if m.at then r.allows.at else true) (nat_le m.colons r.allows.colons) e).1 in
        let one : 1 ≤ m.colons = leb-true 1 m.colons some in
        le-leb 1 r.allows.colons (omega arith)

    wrong : admits r m ≡ true → ends_inside r.name (b ∷ bs) ≡ true → ⊥
    wrong a inside =
        let any : list_any (begins_with n) (first_bytes r.name) ≡ true = any_begun (begins_with n) r.name b (inside_begins r.name b bs inside) begins in
        let e : (not true || not true || are_two n r.name) ≡ true = subst (λ v. (not v || not true || are_two n r.name) ≡ true) (colon a) (subst (λ v. (not (nat_le 1 r.allows.colons) || not v || are_two n r.name) ≡ true) any others.0) in
        let none : false ≡ true = sym (both_there n r.name b bs rest e there) ∙ inside in
        cc

    here : (v : Bool) → admits r m ≡ v → (w : Bool) → ends_inside r.name (b ∷ bs) ≡ w → is_cut rows m (b ∷ bs) ≡ false → (v && not (is_refused r.form) && w || is_cut rows m (b ∷ bs)) ≡ false
    here false a w i later = later
    here true a true i later = absurd (wrong a i)
    here true a false i later = ap (λ v. v || is_cut rows m (b ∷ bs)) (and_false (not (is_refused r.form))) ∙ later
      where
        and_false : (v : Bool) → (v && false) ≡ false
        and_false true = refl
        and_false false = refl

-- a colon is there
some_colon : (r : Row) (m : Modifiers) → admits r m ≡ false → admits (wide_row r) m ≡ true → nat_le 1 m.colons ≡ true
some_colon r m unlike like = here m.colons refl
  where
    here : (n : ℕ) → m.colons ≡ n → nat_le 1 n ≡ true
    here (suc n) is = le-leb 1 (suc n) (omega arith)
    here zero is =
        let at : (if m.at then r.allows.at else true) ≡ true = (both (if m.at then r.allows.at else true) (nat_le m.colons (wide_row r).allows.colons) like).0 in
        let none : nat_le m.colons r.allows.colons ≡ true = ap (λ k. nat_le k r.allows.colons) is ∙ le-leb 0 r.allows.colons (omega arith) in
        let both_so : admits r m ≡ true = rw (at, none) in
        let wrong : true ≡ false = sym both_so ∙ unlike in
        absurd cc

no_name : (n : Name) (rest : List ℕ) → after_name n [] ≡ Some rest → ⊥
unfolding after_name after_letter
no_name (One l) rest e = cc
no_name (Two l k) rest e = cc
no_name (Three l k j) rest e = cc
no_name (Control l) rest e = cc

-- Such a row is of no name that is cut in Named.
added_uncut : (row : Row) (m : Modifiers) (bs : List ℕ) → Among row ROWS → Added row m bs → is_cut ROWS m bs ≡ false
added_uncut row m [] among added = absurd (no_name row.name added.rest added.here)
added_uncut row m (b ∷ bs) among added = uncut row.name ROWS m b bs added.rest (some_colon row m added.unlike added.like) (begins (begins_with row.name b) refl) added.here
    (subst (λ v. (not v || list_all (is_other row.name) ROWS) ≡ true) added.more (each (λ r. not (has_colon r.name) || list_all (is_other r.name) ROWS) ROWS row rows_other among))
  where
    begins : (v : Bool) → begins_with row.name b ≡ v → begins_with row.name b ≡ true
    begins true e = e
    begins false e = let wrong : None ≡ Some added.rest = sym (begins_none row.name b bs e) ∙ added.here in absurd cc

-- What is named in Wide is named in Named, where its name may be refused, or ILL.
abbrev IsOf : Form → Form → Type 0
IsOf f g = (is_refused g ≡ true) ⊎ (f ≡ form_in Wide g)

made_of : (r : Row) → IsOf (wide_row r).form r.form
made_of r = by (is_refused r.form) refl
  where
    by : (v : Bool) → is_refused r.form ≡ v → IsOf (wide_row r).form r.form
    by true e = inl e
    by false e = inr (same_form r e)

form_made : (m : Modifiers) (bs : List ℕ) (f : Form × List ℕ) → form_at WIDE_ROWS m bs ≡ Ok f → ((g : Form) × IsOf f.0 g × (form_at ROWS m bs ≡ Ok (g, f.1))) ⊎ (form_at ROWS m bs ≡ Err Ill)
form_made m bs f e = here (row_at (map wide_row ROWS) m bs) refl (sym (ap (λ (rows : List Row). form_at rows m bs) wide_rows) ∙ e)
  where
    by : (x : Row × List ℕ) → (x.0.form, x.1) ≡ f → Made ROWS (row_at ROWS m bs) m bs x → ((g : Form) × IsOf f.0 g × (form_at ROWS m bs ≡ Ok (g, f.1))) ⊎ (form_at ROWS m bs ≡ Err Ill)
    by x same made = elim made.way [
      | inl named ↦ inl (made.row.form, subst (λ (f : Form). IsOf f made.row.form) (sym (ap (λ (r : Row). r.form) made.is) ∙ ap (λ (f : Form × List ℕ). f.0) same) (made_of made.row), ap (form_of ROWS m bs) named ∙ ap (λ (f : Form × List ℕ). Ok (made.row.form, f.1)) same)
      | inr none ↦ inr (ap (form_of ROWS m bs) none.0 ∙ ap (λ v. if v then Err Utc else Err Ill) (added_uncut made.row m bs made.among none.1))
    ]

    here : (o : Option (Row × List ℕ)) → row_at (map wide_row ROWS) m bs ≡ o → form_of (map wide_row ROWS) m bs o ≡ Ok f → ((g : Form) × IsOf f.0 g × (form_at ROWS m bs ≡ Ok (g, f.1))) ⊎ (form_at ROWS m bs ≡ Err Ill)
    here None is e = absurd (not_ok (is_cut (map wide_row ROWS) m bs) f e)
    here (Some x) is e = let same : (x.0.form, x.1) ≡ f = cc in by x same (row_made ROWS m bs x names_well rows_free is)

abbrev IsMade : List ℕ → (Modifiers × Form) × List ℕ → Type 0
IsMade bs x = ((g : Form) × IsOf x.0.1 g × (named_at ROWS bs ≡ Ok ((x.0.0, g), x.1))) ⊎ (named_at ROWS bs ≡ Err Ill)

named_made : (bs : List ℕ) (x : (Modifiers × Form) × List ℕ) → named_at WIDE_ROWS bs ≡ Ok x → IsMade bs x
unfolding named_at
named_made bs x e = here (modifiers_at no_modifiers bs) e
  where
    by : (m : Modifiers × List ℕ) (f : Form × List ℕ) → ((m.0, f.0), f.1) ≡ x → ((g : Form) × IsOf f.0 g × (form_at ROWS m.0 m.1 ≡ Ok (g, f.1))) ⊎ (form_at ROWS m.0 m.1 ≡ Err Ill)
        → ((g : Form) × IsOf x.0.1 g × (paired m.0 (form_at ROWS m.0 m.1) ≡ Ok ((x.0.0, g), x.1))) ⊎ (paired m.0 (form_at ROWS m.0 m.1) ≡ Err Ill)
    by m f same (inl h) = inl (h.0, subst (λ (f : Form). IsOf f h.0) (ap (λ (x : (Modifiers × Form) × List ℕ). x.0.1) same) h.1, ap (paired m.0) h.2 ∙ ap (λ (x : (Modifiers × Form) × List ℕ). Ok ((x.0.0, h.0), x.1)) same)
    by m f same (inr h) = inr (ap (paired m.0) h)

    there : (m : Modifiers × List ℕ) (r : Reading Form) → form_at WIDE_ROWS m.0 m.1 ≡ r → paired m.0 r ≡ Ok x
        → ((g : Form) × IsOf x.0.1 g × (paired m.0 (form_at ROWS m.0 m.1) ≡ Ok ((x.0.0, g), x.1))) ⊎ (paired m.0 (form_at ROWS m.0 m.1) ≡ Err Ill)
    there m (Err c) is e = absurd cc
    there m (Ok f) is e = let same : ((m.0, f.0), f.1) ≡ x = cc in by m f same (form_made m.0 m.1 f is)

    here : (r : Reading Modifiers) → (r >>= (λ m. paired m.0 (form_at WIDE_ROWS m.0 m.1))) ≡ Ok x
        → ((g : Form) × IsOf x.0.1 g × ((r >>= (λ m. paired m.0 (form_at ROWS m.0 m.1))) ≡ Ok ((x.0.0, g), x.1))) ⊎ ((r >>= (λ m. paired m.0 (form_at ROWS m.0 m.1))) ≡ Err Ill)
    here (Err c) e = absurd cc
    here (Ok m) e = there m (form_at WIDE_ROWS m.0 m.1) refl e

-- What is read after a name in Wide is read in Named, or IQC.
abbrev asked : List ℕ → Option Test → Reading Test
asked bs o = do
  t ← or_else o Iqc
  Ok (t, bs)

abbrev decided : Reading Test → Reading Instruction
decided r = do
  t ← r
  Ok (decide t.0, t.1)

test_made : (bs : List ℕ) (x : Test × List ℕ) → test_at Wide bs ≡ Ok x → (test_at Named bs ≡ Ok x) ⊎ (test_at Named bs ≡ Err Iqc)
unfolding test_at byte_at test_of
test_made [] x e = absurd cc
test_made (b ∷ bs) x e = here (letter_test (upper b)) e
  where
    here : (o : Option Test) → asked bs (or_more o (upper b)) ≡ Ok x → (asked bs o ≡ Ok x) ⊎ (asked bs o ≡ Err Iqc)
    here (Some t) e = inl e
    here None e = inr refl

test_operand_made : (m : Modifiers) (bs : List ℕ) (x : Instruction × List ℕ) → operand_at form.WideTest m bs ≡ Ok x → (operand_at form.Test m bs ≡ Ok x) ⊎ (operand_at form.Test m bs ≡ Err Iqc)
unfolding operand_at
test_operand_made m bs x e = here (test_at Wide bs) refl e
  where
    here : (r : Reading Test) → test_at Wide bs ≡ r → decided r ≡ Ok x → (decided (test_at Named bs) ≡ Ok x) ⊎ (decided (test_at Named bs) ≡ Err Iqc)
    here (Err c) is e = absurd cc
    here (Ok t) is e = elim (test_made bs t is) [
      | inl h ↦ inl (ap decided h ∙ e)
      | inr h ↦ inr (ap decided h)
    ]

operand_made : (g : Form) (m : Modifiers) (bs : List ℕ) (x : Instruction × List ℕ) → operand_at (form_in Wide g) m bs ≡ Ok x → (operand_at g m bs ≡ Ok x) ⊎ (operand_at g m bs ≡ Err Iqc)
operand_made (form.Bare c) m bs x e = inl e
operand_made (form.Mark c) m bs x e = inl e
operand_made form.Escape m bs x e = inl e
operand_made (form.Register c) m bs x e = inl e
operand_made form.Byte m bs x e = inl e
operand_made form.Test m bs x e = test_operand_made m bs x e
operand_made form.WideTest m bs x e = inl e
operand_made (form.Text c d) m bs x e = inl e
operand_made form.Tag m bs x e = inl e
operand_made form.SetText m bs x e = inl e
operand_made form.Replace m bs x e = inl e
operand_made form.Refused m bs x e = inl e

abbrev IsAdded : List ℕ → TokenMeaning × List ℕ → Type 0
IsAdded bs t = (token_from ROWS bs ≡ Ok t) ⊎ (token_from ROWS bs ≡ Err Ill) ⊎ (token_from ROWS bs ≡ Err Iqc)

token_made : (bs : List ℕ) (t : TokenMeaning × List ℕ) → token_from WIDE_ROWS bs ≡ Ok t → IsAdded bs t
token_made bs t e = here (begins_run bs) refl
  where
    none_made : begins_run bs ≡ false → (r : Reading TokenMeaning) → with_operand (named_at ROWS bs) ≡ r → token_from ROWS bs ≡ r
    none_made none r is = token_named ROWS bs none ∙ is

    -- a refused name is ILL
    refused : begins_run bs ≡ false → (n : (Modifiers × Form) × List ℕ) (g : Form) → is_refused g ≡ true → named_at ROWS bs ≡ Ok ((n.0.0, g), n.1) → IsAdded bs t
    refused none n g had named = inr (inl (none_made none (Err Ill) (ap with_operand named ∙ ap (ordered n.0.0) (refused_is_ill g n.0.0 n.1 had))))

    operand : begins_run bs ≡ false → (n : (Modifiers × Form) × List ℕ) (g : Form) → n.0.1 ≡ form_in Wide g → named_at ROWS bs ≡ Ok ((n.0.0, g), n.1) → (r : Reading Instruction) → operand_at n.0.1 n.0.0 n.1 ≡ r → ordered n.0.0 r ≡ Ok t → IsAdded bs t
    operand none n g is named (Err c) read e = absurd cc
    operand none n g is named (Ok i) read e = elim (operand_made g n.0.0 n.1 i (sym (ap (λ (f : Form). operand_at f n.0.0 n.1) is) ∙ read)) [
      | inl h ↦ inl (none_made none (Ok t) (ap with_operand named ∙ ap (ordered n.0.0) h ∙ e))
      | inr h ↦ inr (inr (none_made none (Err Iqc) (ap with_operand named ∙ ap (ordered n.0.0) h)))
    ]

    command : begins_run bs ≡ false → (r : Reading (Modifiers × Form)) → named_at WIDE_ROWS bs ≡ r → with_operand r ≡ Ok t → IsAdded bs t
    command none (Err c) is e = absurd cc
    command none (Ok n) is e = elim (named_made bs n is) [
      | inl h ↦ elim h.1 [
        | inl had ↦ refused none n h.0 had h.2
        | inr is ↦ operand none n h.0 is h.2 (operand_at n.0.1 n.0.0 n.1) refl e
      ]
      | inr h ↦ inr (inl (none_made none (Err Ill) (ap with_operand h)))
    ]

    here : (v : Bool) → begins_run bs ≡ v → IsAdded bs t
    here true run = inl (run_token ROWS bs run ∙ sym (run_token WIDE_ROWS bs run) ∙ e)
    here false none = command none (named_at WIDE_ROWS bs) refl (sym (token_named WIDE_ROWS bs none) ∙ e)

here_made : (bs rest : List ℕ) (t : TokenMeaning) → scan_here Wide bs ≡ found t rest → (scan_here Named bs ≡ found t rest) ⊎ (scan_here Named bs ≡ fault Ill) ⊎ (scan_here Named bs ≡ fault Iqc)
here_made [] rest t e = absurd cc
here_made (b ∷ bs) rest t e = of_reading (token_from WIDE_ROWS (b ∷ bs)) refl e
  where
    by : (x : TokenMeaning × List ℕ) → scanned (Ok x) ≡ found t rest → IsAdded (b ∷ bs) x
        → (scanned (token_from ROWS (b ∷ bs)) ≡ found t rest) ⊎ (scanned (token_from ROWS (b ∷ bs)) ≡ fault Ill) ⊎ (scanned (token_from ROWS (b ∷ bs)) ≡ fault Iqc)
    by x e (inl h) = inl (ap scanned h ∙ e)
    by x e (inr (inl h)) = inr (inl (ap scanned h))
    by x e (inr (inr h)) = inr (inr (ap scanned h))

    of_reading : (r : Reading TokenMeaning) → token_from WIDE_ROWS (b ∷ bs) ≡ r → scanned r ≡ found t rest
        → (scanned (token_from ROWS (b ∷ bs)) ≡ found t rest) ⊎ (scanned (token_from ROWS (b ∷ bs)) ≡ fault Ill) ⊎ (scanned (token_from ROWS (b ∷ bs)) ≡ fault Iqc)
    of_reading (Err c) is e = absurd cc
    of_reading (Ok x) is e = by x e (token_made (b ∷ bs) x is)

-- What Wide finds, Named finds, or it is ILL or IQC.
pub wide_adds : WideAdds
unfolding scan
wide_adds bs rest t e = here_made (after_fillers bs) rest t e
