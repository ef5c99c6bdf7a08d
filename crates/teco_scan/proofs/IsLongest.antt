-- Of the tokens that the bytes begin with the longest is read; a refused name is ILL.
use Rattle.std.proofs.Common.{leb-true, ◌≡◌, ◌≢◌, ℕ, ◌<◌, ◌≤◌, Bool, true, false, ◌⊎◌, cond, List, [], ◌∷◌, ◌++◌, length, Option, Some, None, Ok, Err, refl, sym, ap, subst, ◌∙◌, arith, append_assoc, inl, inr, length-append}
use Rattle.std.specs.Prelude.{◌==◌, ◌&&◌, ◌||◌, not, nat_le}
use Rattle.std.proofs.lemmas.Bool.{false_from_ne_true}
use Rattle.std.specs.List.{AllByRecursion, list_all}
use Rattle.teco_core.specs.Refusal.{◌>>=◌}
use Rattle.teco_core.specs.Ascii.{is_digit, upper}
use Rattle.teco_core.specs.declared.code.Code.TheVariants.{Ill}
use Rattle.teco_scan.specs.declared.command.Row.{Row}
use Rattle.teco_core.specs.declared.profile.Profile.{Profile}
use Rattle.teco_core.specs.declared.profile.Profile.TheVariants.{Named, Wide}
use Rattle.teco_scan.specs.declared.command.Modifiers.{Modifiers}
use Rattle.teco_scan.specs.declared.command.Name.{Name}
use Rattle.teco_scan.specs.declared.command.Form.{Form}
use Rattle.teco_scan.specs.declared.command.Form.TheVariants as form
use Rattle.teco_scan.specs.Table.{is_not_lower, is_first_letter, is_name, meets, is_alone, has_more_letters, is_longer, is_apart, is_table}
use Rattle.teco_scan.specs.Scan.{Reading, Instruction, TokenMeaning, is_refused, admits, after_name, row_at, at_row, of_row, command_at, operand_at, modifiers_at, begins_run, after_run, token_from, no_modifiers}
use Rattle.teco_scan.specs.Spelling.{test_form, Marks, no_mark, at_mark, colon_mark, SpellsName, one_spelled, two_spelled, three_spelled, control_spelled, caret_spelled, SpellsOperand, bare_spelled, mark_spelled, escape_spelled, register_spelled, byte_spelled, test_spelled, text_spelled, tag_spelled, set_text_spelled, replace_spelled, Among, BeginsWithRow, run_spelled, command_spelled, IsRefused, LeavesAtMost, IsLongest}
use Rattle.teco_scan.proofs.IsSpelled.{TakesSome, name_takes, TakesRow, row_takes}
use Rattle.teco_scan.proofs.SpelledReads.{both, each, IsName, NoMark, marks_again, operand_again, name_again, meet, more_bytes, one_of, named_well}

same_small : (b : ℕ) → b < 97 → upper b ≡ b
same_small b h = grind arith

digit_small : (b : ℕ) → is_digit b ≡ true → (48 ≤ b) × (b ≤ 57)
digit_small b d = let p = both (nat_le 48 b) (nat_le b 57) d in (leb-true 48 b p.0, leb-true b 57 p.1)

letter_start : (b l : ℕ) → upper b ≡ l → is_first_letter l ≡ true → (b ≢ 64) × (b ≢ 58) × (is_digit b ≡ false)
letter_start b l e ok =
    let ok_b : is_first_letter (upper b) ≡ true = subst (λ w. is_first_letter w ≡ true) (sym e) ok in (
      λ is. let wrong : is_first_letter (upper 64) ≡ true = subst (λ w. is_first_letter (upper w) ≡ true) is ok_b in absurd cc,
      λ is. let wrong : is_first_letter (upper 58) ≡ true = subst (λ w. is_first_letter (upper w) ≡ true) is ok_b in absurd cc,
      false_from_ne_true (is_digit b) (λ d.
          let small : upper b ≡ b = same_small b (omega (arith, (digit_small b d).1)) in
          let no : not (is_digit b) ≡ true = subst (λ w. not (is_digit w) ≡ true) small (both (is_not_lower (upper b) && not (upper b == 64) && not (upper b == 58)) (not (is_digit (upper b))) ok_b).1 in
          let never : not true ≡ true = subst (λ w. not w ≡ true) d no in
          absurd cc),
    )

no_digit : (b : ℕ) → b < 48 → is_digit b ≡ false
no_digit b h = false_from_ne_true (is_digit b) (λ d. absurd (omega (arith, (digit_small b d).0)))

first_letter : (a b : Bool) → (a && b) ≡ true → a ≡ true
first_letter a b e = (both a b e).0

-- a command's name begins with neither a modifier nor a digit
pub name_start : {n : Name} {bs : List ℕ} → SpellsName n bs → IsName n → (rest : List ℕ) → NoMark (bs ++ rest) × (begins_run (bs ++ rest) ≡ false)
name_start (one_spelled {l = l} {b = b} e) ok rest = let p = letter_start b l e ok in ((p.0, p.1), p.2)
name_start (two_spelled {l = l} {k = k} {b = b} e f) ok rest = let p = letter_start b l e (first_letter (is_first_letter l) (is_not_lower k) ok) in ((p.0, p.1), p.2)
name_start (three_spelled {l = l} {k = k} {j = j} {b = b} e f g) ok rest =
    let p = letter_start b l e (first_letter (is_first_letter l) (is_not_lower k) (first_letter (is_first_letter l && is_not_lower k) (is_not_lower j) ok)) in ((p.0, p.1), p.2)
name_start (control_spelled {l = l} {b = b} e) ok rest =
    let high : l ≤ 94 = leb-true l 94 (both (nat_le 65 l) (nat_le l 94) ok).1 in
    ((λ is. absurd (omega arith), λ is. absurd (omega arith)), no_digit b (omega arith))
name_start (caret_spelled e) ok rest = ((λ is. absurd (omega arith), λ is. absurd (omega arith)), refl)

marks_start : {m n : Modifiers} {marks : List ℕ} → Marks m marks n → (bs : List ℕ) → begins_run bs ≡ false → begins_run (marks ++ bs) ≡ false
marks_start no_mark bs h = h
marks_start (at_mark e more) bs h = refl
marks_start (colon_mark e more) bs h = refl

-- the token of a command and its modifiers
abbrev pub finished : Modifiers → Instruction × List ℕ → Reading TokenMeaning
finished m i = Ok (record { modifiers = m; instruction = i.0 }, i.1)

-- after its modifiers the command is read
pub read_behind : (rows : List Row) {m : Modifiers} {marks : List ℕ} → Marks no_modifiers marks m → (bs : List ℕ) → NoMark bs → begins_run bs ≡ false → token_from rows (marks ++ bs) ≡ (command_at rows m bs >>= finished m)
unfolding token_from
read_behind rows marked bs free no_run = rw (marks_start marked bs no_run, marks_again marked bs free)

-- a row that admits the modifiers and whose name is there is found, or a longer one
row_again : (rows : List Row) (r : Row) (m : Modifiers) (bs rest : List ℕ) → list_all (λ r. is_name r.name) rows ≡ true → is_apart rows ≡ true → Among r rows → admits r m ≡ true → SpellsName r.name bs →
    (x : Row × List ℕ) × (row_at rows m (bs ++ rest) ≡ Some x) × ((x.0 ≡ r) ⊎ (is_longer x.0 r ≡ true))
unfolding row_at
row_again [] r m bs rest ok apart among admitted named = absurd among
row_again (s ∷ rows) r m bs rest ok apart (inl same) admitted named = (
  (s, rest),
  ap (λ v. cond v (at_row s (after_name s.name (bs ++ rest)) (row_at rows m (bs ++ rest))) (row_at rows m (bs ++ rest))) (subst (λ w. admits w m ≡ true) same admitted)
      ∙ ap (λ o. at_row s o (row_at rows m (bs ++ rest))) (name_again (subst (λ w. SpellsName w.name bs) same named) (both _ _ ok).0 rest),
  inl (sym same),
)
row_again (s ∷ rows) r m bs rest ok apart (inr later) admitted named =
    tested (admits s m) (after_name s.name (bs ++ rest)) (name_takes s.name (bs ++ rest))
    (row_again rows r m bs rest (both (is_name s.name) (list_all (λ r. is_name r.name) rows) ok).1 (both (list_all (λ r. not (meets s.name r.name) || is_longer s r) rows) (is_apart rows) apart).1 later admitted named)
  where
    tested : (v : Bool) (o : Option (List ℕ)) → TakesSome (SpellsName s.name) (bs ++ rest) o → (x : Row × List ℕ) × (row_at rows m (bs ++ rest) ≡ Some x) × ((x.0 ≡ r) ⊎ (is_longer x.0 r ≡ true)) →
        (x : Row × List ℕ) × (cond v (at_row s o (row_at rows m (bs ++ rest))) (row_at rows m (bs ++ rest)) ≡ Some x) × ((x.0 ≡ r) ⊎ (is_longer x.0 r ≡ true))
    tested false o is h = h
    tested true None is h = h
    tested true (Some more) is h =
        let met : meets s.name r.name ≡ true = meet s.name r.name is.0 bs more rest (both _ _ ok).0 (each (λ r. is_name r.name) rows r (both (is_name s.name) (list_all (λ r. is_name r.name) rows) ok).1 later) is.1 named (sym is.2) in
        let long : is_longer s r ≡ true = one_of (meets s.name r.name) (is_longer s r) (each (λ r. not (meets s.name r.name) || is_longer s r) rows r (both (list_all (λ r. not (meets s.name r.name) || is_longer s r) rows) (is_apart rows) apart).0 later) met in
        ((s, more), refl, inr long)

-- a longer row: nothing follows either name, and it is refused where the other is
pub record IsLongerThan (s r : Row) : Type 0 where
  pub letters : has_more_letters s.name r.name ≡ true
  pub alone : is_alone s.form ≡ true
  pub other_alone : is_alone r.form ≡ true
  pub refused : (is_refused s.form || not (is_refused r.form)) ≡ true

pub longer_is : (s r : Row) → is_longer s r ≡ true → IsLongerThan s r
longer_is s r e =
    let p = both (has_more_letters s.name r.name && is_alone s.form && is_alone r.form) (is_refused s.form || not (is_refused r.form)) e in
    let q = both (has_more_letters s.name r.name && is_alone s.form) (is_alone r.form) p.0 in
    let o = both (has_more_letters s.name r.name) (is_alone s.form) q.0 in
    record { letters = o.0; alone = o.1; other_alone = q.1; refused = p.1 }

-- the row that was looked for and what is after its name, or a longer one and less
abbrev pub Reached : Row → List ℕ → Row × List ℕ → Type 0
Reached r rest x = ((x.0 ≡ r) × (x.1 ≡ rest)) ⊎ (IsLongerThan x.0 r × (length x.1 < length rest))

-- where a command of the rows is, it or a longer one is found
pub record Finds (rows : List Row) (row : Row) (m : Modifiers) (bs behind : List ℕ) : Type 0 where
  pub at : Row × List ℕ
  pub stands : BeginsWithRow rows at.0 m bs at.1
  pub command : List ℕ
  pub marks_read : modifiers_at no_modifiers bs ≡ Ok (m, command)
  pub row_found : row_at rows m command ≡ Some at
  pub reads : token_from rows bs ≡ (operand_at at.0.form m at.1 >>= finished m)
  pub reached : Reached row behind at

some_same : {A : Type 0} (a b : A) → Some a ≡ Some b → a ≡ b
some_same a b e = cc

pub finds : (rows : List Row) → is_table rows ≡ true → {row : Row} {m : Modifiers} {bs behind : List ℕ} → BeginsWithRow rows row m bs behind → Finds rows row m bs behind
unfolding command_at
finds rows table {row = row} {m = m} {bs = bs} {behind = behind} stands =
    let ok = both (list_all (λ r. is_name r.name) rows) (is_apart rows) table in
    let here = stands.name ++ behind in
    let found = row_again rows row m stands.name behind ok.0 ok.1 stands.among stands.admitted stands.named in
    let x : Row × List ℕ = found.0 in
    let taken : TakesRow rows m here (Some x) = subst (TakesRow rows m here) found.1 (row_takes rows m here) in
    let well : IsName row.name = named_well rows table row stands.among in
    let start = name_start stands.named well behind in
    record {
      at = x;
      stands = record { among = taken.0; admitted = taken.1; marks = stands.marks; name = taken.2.0; marked = stands.marked; named = taken.2.1; whole = stands.whole ∙ ap (λ w. stands.marks ++ w) taken.2.2 };
      command = here;
      marks_read = ap (modifiers_at no_modifiers) stands.whole ∙ marks_again stands.marked here start.0;
      row_found = found.1;
      reads = ap (token_from rows) stands.whole ∙ read_behind rows stands.marked here start.0 start.1 ∙ ap (λ o. of_row rows m here o >>= finished m) found.1;
      reached = reached x found.2 taken well;
    }
  where
    reached : (x : Row × List ℕ) → (x.0 ≡ row) ⊎ (is_longer x.0 row ≡ true) → TakesRow rows m (stands.name ++ behind) (Some x) → IsName row.name → Reached row behind x
    reached x (inl same) taken well =
        let named : SpellsName row.name taken.2.0 = subst (λ (w : Row). SpellsName w.name taken.2.0) same taken.2.1 in
        inl (same, some_same x.1 behind (sym (name_again named well x.1) ∙ ap (after_name row.name) (sym taken.2.2) ∙ name_again stands.named well behind))
    reached x (inr long) taken well =
        let is : IsLongerThan x.0 row = longer_is x.0 row long in
        inr (is, omega (arith, more_bytes is.letters taken.2.1 stands.named, ap length taken.2.2, length-append stands.name behind, length-append taken.2.0 x.1))

-- a test follows its name
pub not_alone_test : (p : Profile) → is_alone (test_form p) ≡ true → ⊥
not_alone_test Named e = cc
not_alone_test Wide e = cc

-- where nothing follows the name nothing is spelled
pub alone_empty : {f : Form} {m : Modifiers} {o : Instruction} {bs : List ℕ} → SpellsOperand f m o bs → is_alone f ≡ true → bs ≡ []
alone_empty bare_spelled e = refl
alone_empty mark_spelled e = refl
alone_empty escape_spelled e = refl
alone_empty (register_spelled h) e = absurd cc
alone_empty byte_spelled e = absurd cc
alone_empty (test_spelled h) e = absurd (not_alone_test h.0 (subst (λ (f : Form). is_alone f ≡ true) h.1 e))
alone_empty (text_spelled d front back h k w) e = absurd cc
alone_empty (tag_spelled h) e = absurd cc
alone_empty (set_text_spelled b d front back g h k w) e = absurd cc
alone_empty (replace_spelled d front old new h k l w) e = absurd cc

-- and the command is read, or refused
pub alone_read : (f : Form) (m : Modifiers) (bs : List ℕ) → is_alone f ≡ true → ((i : Instruction) × (operand_at f m bs ≡ Ok (i, bs))) ⊎ (f ≡ form.Refused)
unfolding operand_at
alone_read (form.Bare c) m bs e = inl (_, refl)
alone_read (form.Mark c) m bs e = inl (_, refl)
alone_read form.Escape m bs e = inl (_, refl)
alone_read (form.Register c) m bs e = absurd cc
alone_read form.Byte m bs e = absurd cc
alone_read form.Test m bs e = absurd cc
alone_read form.WideTest m bs e = absurd cc
alone_read (form.Text c d) m bs e = absurd cc
alone_read form.Tag m bs e = absurd cc
alone_read form.SetText m bs e = absurd cc
alone_read form.Replace m bs e = absurd cc
alone_read form.Refused m bs e = inr refl

-- more bytes after
pub stands_more : {rows : List Row} {row : Row} {m : Modifiers} {bs behind : List ℕ} → BeginsWithRow rows row m bs behind → (rest : List ℕ) → BeginsWithRow rows row m (bs ++ rest) (behind ++ rest)
stands_more {behind = behind} s rest = record {
  among = s.among;
  admitted = s.admitted;
  marks = s.marks;
  name = s.name;
  marked = s.marked;
  named = s.named;
  whole = ap (λ w. w ++ rest) s.whole ∙ append_assoc s.marks (s.name ++ behind) rest ∙ ap (λ w. s.marks ++ w) (append_assoc s.name behind rest);
}

more_run : (bs : List ℕ) → length (after_run bs) ≤ length bs
unfolding after_run
more_run [] = omega arith
more_run (b ∷ bs) = elim (is_digit b) as (λ v. length (cond v (after_run bs) (b ∷ bs)) ≤ length (b ∷ bs)) [ true ↦ omega (arith, more_run bs) | false ↦ omega arith ]

run_again : (bs rest : List ℕ) → AllByRecursion (λ b. is_digit b ≡ true) bs → length (after_run (bs ++ rest)) ≤ length rest
unfolding after_run
run_again [] rest all = more_run rest
run_again (b ∷ bs) rest all = rw all.0 (run_again bs rest all.1)

run_begins : (bs rest : List ℕ) → 0 < length bs → AllByRecursion (λ b. is_digit b ≡ true) bs → begins_run (bs ++ rest) ≡ true
run_begins [] rest long all = absurd (omega arith)
run_begins (b ∷ bs) rest long all = all.0

pub longest : (rows : List Row) → is_table rows ≡ true → IsLongest rows
unfolding token_from
longest rows table front rest _ (run_spelled long all) = inl (rw (run_begins front rest long all) (run_again front rest all))
longest rows table front rest _ (command_spelled {m = m} {i = i} row operand stands is) = by (finds rows table (stands_more stands rest))
  where
    by : Finds rows row m (front ++ rest) (operand ++ rest) → LeavesAtMost rest (token_from rows (front ++ rest)) ⊎ IsRefused rows (front ++ rest)
    by found = reached found.at found.stands found.reads found.reached
      where
        reached : (x : Row × List ℕ) → BeginsWithRow rows x.0 m (front ++ rest) x.1 → token_from rows (front ++ rest) ≡ (operand_at x.0.form m x.1 >>= finished m) → Reached row (operand ++ rest) x → LeavesAtMost rest (token_from rows (front ++ rest)) ⊎ IsRefused rows (front ++ rest)
        reached x there reads (inl same) =
            let again : operand_at x.0.form m x.1 ≡ Ok (i, rest) = subst (λ (w : Row). operand_at w.form m x.1 ≡ Ok (i, rest)) (sym same.0) (ap (operand_at row.form m) same.1 ∙ operand_again is rest) in
            inl (subst (LeavesAtMost rest) (sym (reads ∙ ap (λ r. r >>= finished m) again)) (omega arith))
        reached x there reads (inr longer) = alone (alone_read x.0.form m x.1 longer.0.alone)
          where
            alone : ((i : Instruction) × (operand_at x.0.form m x.1 ≡ Ok (i, x.1))) ⊎ (x.0.form ≡ form.Refused) → LeavesAtMost rest (token_from rows (front ++ rest)) ⊎ IsRefused rows (front ++ rest)
            alone (inl read) = inl (subst (LeavesAtMost rest) (sym (reads ∙ ap (λ r. r >>= finished m) read.1)) (omega (arith, longer.1, length-append operand rest, ap length (alone_empty is longer.0.other_alone))))
            alone (inr refused) = inr (x.0, m, x.1, there, refused)

refused_too : (v w : Bool) → (v || not w) ≡ true → w ≡ true → v ≡ true
refused_too true w e is = refl
refused_too false w e is = absurd cc

-- where a refused name is a refused row is found
pub refused_found : {row : Row} {rest : List ℕ} (x : Row × List ℕ) → Reached row rest x → is_refused row.form ≡ true → is_refused x.0.form ≡ true
refused_found x (inl same) e = ap (λ (w : Row). is_refused w.form) same.0 ∙ e
refused_found {row = row} x (inr longer) e = refused_too (is_refused x.0.form) (is_refused row.form) longer.0.refused e

pub refused_form : (f : Form) → is_refused f ≡ true → f ≡ form.Refused
refused_form (form.Bare c) e = absurd cc
refused_form (form.Mark c) e = absurd cc
refused_form form.Escape e = absurd cc
refused_form (form.Register c) e = absurd cc
refused_form form.Byte e = absurd cc
refused_form form.Test e = absurd cc
refused_form form.WideTest e = absurd cc
refused_form (form.Text c d) e = absurd cc
refused_form form.Tag e = absurd cc
refused_form form.SetText e = absurd cc
refused_form form.Replace e = absurd cc
refused_form form.Refused e = refl

-- a refused name is ILL
pub refused_is_ill : (rows : List Row) → is_table rows ≡ true → (bs : List ℕ) → IsRefused rows bs → token_from rows bs ≡ Err Ill
unfolding operand_at
refused_is_ill rows table bs h = by (finds rows table h.3)
  where
    by : Finds rows h.0 h.1 bs h.2 → token_from rows bs ≡ Err Ill
    by found = found.reads ∙ ap (λ f. operand_at f h.1 found.at.1 >>= finished h.1) (refused_form found.at.0.form (refused_found found.at found.reached (ap is_refused h.4)))
