-- UTC and ILL are read exactly where they should be; fillers are passed.
use Rattle.std.proofs.Common.{◌≡◌, ℕ, Bool, true, false, ◌⊎◌, cond, List, [], ◌∷◌, ◌++◌, Option, Some, None, Ok, Err, refl, sym, ap, subst, ◌∙◌, inl, inr}
use Rattle.std.specs.List.{AllByRecursion}
use Rattle.teco_core.specs.declared.code.Code.{Code}
use Rattle.teco_core.specs.declared.code.Code.TheVariants.{Ill, Iqc, Iqn, Utc}
use Rattle.teco_core.specs.Ascii.{is_filler}
use Rattle.teco_scan.specs.declared.command.Row.{Row}
use Rattle.teco_scan.specs.declared.command.Modifiers.{Modifiers}
use Rattle.teco_scan.specs.Table.{is_table}
use Rattle.teco_scan.specs.Scan.{Reading, TokenMeaning, is_refused, modifiers_at, row_at, token_from, no_modifiers, after_fillers, scan_here, scan}
use Rattle.teco_scan.specs.Spelling.{Marks, BeginsWithToken, IsRefused, LeavesAtMost, IsNothing, IsCutExactly, IsIllExactly, BeginsNoFiller, PassesFillers}
use Rattle.teco_scan.proofs.IsSpelled.{Takes, marks_take, TakesRow, row_takes, spelled}
use Rattle.teco_scan.proofs.IsLongest.{Finds, finds, longest, refused_found, refused_form, refused_is_ill}
use Rattle.teco_scan.proofs.Faults.{Faults, four, register_exactly, test_exactly}
use Rattle.teco_scan.proofs.Cut.{cut_is_front}
use Rattle.teco_scan.proofs.Fronts.{IsCutOnly, front_reads}

-- where a fault is read a token is only after a refused name
fault_refused : (rows : List Row) → is_table rows ≡ true → (bs : List ℕ) (c : Code) → token_from rows bs ≡ Err c → BeginsWithToken rows bs → IsRefused rows bs
fault_refused rows table bs c e begins = by (subst (λ w. LeavesAtMost begins.2 (token_from rows w) ⊎ IsRefused rows w) (sym begins.4) (longest rows table begins.1 begins.2 begins.0 begins.3))
  where
    by : LeavesAtMost begins.2 (token_from rows bs) ⊎ IsRefused rows bs → IsRefused rows bs
    by (inl leaves) = let wrong : LeavesAtMost {A = TokenMeaning} begins.2 (Err c) = subst (LeavesAtMost begins.2) e leaves in absurd wrong
    by (inr refused) = refused

same_fault : (r : Reading TokenMeaning) (c d : Code) → r ≡ Err c → r ≡ Err d → c ≡ d
same_fault r c d e f = cc

abbrev IsIll : Reading TokenMeaning → Type 0
IsIll r = r ≡ Err Ill

read_begins : (rows : List Row) (bs : List ℕ) (x : TokenMeaning × List ℕ) → token_from rows bs ≡ Ok x → BeginsWithToken rows bs
read_begins rows bs x e = let s = spelled rows bs x.1 x.0 e in (x.0, s.0, x.1, s.1, s.2)

pub cut_exactly : (rows : List Row) → is_table rows ≡ true → IsCutExactly rows
cut_exactly rows table bs some = (λ e. (cut_is_front rows table bs e, no_token e), λ h. by (token_from rows bs) refl (front_reads rows table bs some h.0) h.1)
  where
    no_token : token_from rows bs ≡ Err Utc → BeginsWithToken rows bs → ⊥
    no_token e begins =
        let ill : token_from rows bs ≡ Err Ill = refused_is_ill rows table bs (fault_refused rows table bs Utc e begins) in
        let wrong : Utc ≡ Ill = same_fault (token_from rows bs) Utc Ill e ill in
        cc

    by : (r : Reading TokenMeaning) → token_from rows bs ≡ r → Faults IsCutOnly r → (BeginsWithToken rows bs → ⊥) → r ≡ Err Utc
    by (Ok x) e only none = absurd (none (read_begins rows bs x e))
    by (Err c) e only none = ap Err only

-- Whether a refused name is there.
found_refused : Option (Row × List ℕ) → Bool
found_refused None = false
found_refused (Some x) = is_refused x.0.form

marks_refused : List Row → Reading Modifiers → Bool
marks_refused rows (Ok m) = found_refused (row_at rows m.0 m.1)
marks_refused rows (Err c) = false

some_refused : (rows : List Row) (bs : List ℕ) → marks_refused rows (modifiers_at no_modifiers bs) ≡ true → IsRefused rows bs
unfolding marks_refused found_refused
some_refused rows bs e = of_marks (modifiers_at no_modifiers bs) (marks_take no_modifiers bs) e
  where
    of_row : (m : Modifiers) (marks rest : List ℕ) → Marks no_modifiers marks m → bs ≡ marks ++ rest → (o : Option (Row × List ℕ)) → TakesRow rows m rest o → found_refused o ≡ true → IsRefused rows bs
    of_row m marks rest marked whole None t e = absurd cc
    of_row m marks rest marked whole (Some x) t e = (
      x.0,
      m,
      x.1,
      record { among = t.0; admitted = t.1; marks = marks; name = t.2.0; marked = marked; named = t.2.1; whole = whole ∙ ap (λ w. marks ++ w) t.2.2 },
      refused_form x.0.form e,
    )

    of_marks : (r : Reading Modifiers) → Takes (λ m front. Marks no_modifiers front m) bs r → marks_refused rows r ≡ true → IsRefused rows bs
    of_marks (Err c) t e = absurd cc
    of_marks (Ok m) t e = of_row m.0 t.0 m.1 t.1 t.2 (row_at rows m.0 m.1) (row_takes rows m.0 m.1) e

refused_seen : (rows : List Row) → is_table rows ≡ true → (bs : List ℕ) → IsRefused rows bs → marks_refused rows (modifiers_at no_modifiers bs) ≡ true
unfolding marks_refused found_refused
refused_seen rows table bs h = by (finds rows table h.3)
  where
    by : Finds rows h.0 h.1 bs h.2 → marks_refused rows (modifiers_at no_modifiers bs) ≡ true
    by found = ap (marks_refused rows) found.marks_read ∙ ap found_refused found.row_found ∙ refused_found found.at found.reached (ap is_refused h.4)

refused_or_not : (rows : List Row) → is_table rows ≡ true → (bs : List ℕ) → IsRefused rows bs ⊎ (IsRefused rows bs → ⊥)
refused_or_not rows table bs = here (marks_refused rows (modifiers_at no_modifiers bs)) refl
  where
    here : (v : Bool) → marks_refused rows (modifiers_at no_modifiers bs) ≡ v → IsRefused rows bs ⊎ (IsRefused rows bs → ⊥)
    here true e = inl (some_refused rows bs e)
    here false e = inr (λ h. let wrong : true ≡ false = sym (refused_seen rows table bs h) ∙ e in cc)

pub ill_exactly : (rows : List Row) → is_table rows ≡ true → IsIllExactly rows
ill_exactly rows table bs some = (λ e. said e (refused_or_not rows table bs), back)
  where
    another : {c d : Code} → token_from rows bs ≡ Err c → token_from rows bs ≡ Err d → c ≡ d
    another {c = c} {d = d} e f = same_fault (token_from rows bs) c d e f

    nothing : token_from rows bs ≡ Err Ill → (IsRefused rows bs → ⊥) → IsNothing rows bs
    nothing e never =
        let none : BeginsWithToken rows bs → ⊥ = λ begins. never (fault_refused rows table bs Ill e begins) in
        record {
          no_token = none;
          no_front = λ front. let wrong : Ill ≡ Utc = another e ((cut_exactly rows table bs some).1 (front, none)) in cc;
          no_register = λ lacks. let wrong : Ill ≡ Iqn = another e ((register_exactly rows table bs).1 lacks) in cc;
          no_test = λ lacks. let wrong : Ill ≡ Iqc = another e ((test_exactly rows table bs).1 lacks) in cc;
        }

    said : token_from rows bs ≡ Err Ill → IsRefused rows bs ⊎ (IsRefused rows bs → ⊥) → IsRefused rows bs ⊎ IsNothing rows bs
    said e (inl refused) = inl refused
    said e (inr never) = inr (nothing e never)

    by : (r : Reading TokenMeaning) → token_from rows bs ≡ r → IsNothing rows bs → r ≡ Err Ill
    by (Ok x) e h = absurd (h.no_token (read_begins rows bs x e))
    by (Err c) e h = of_four (four rows bs c e)
      where
        of_four : (c ≡ Ill) ⊎ (c ≡ Iqn) ⊎ (c ≡ Iqc) ⊎ (c ≡ Utc) → IsIll (Err c)
        of_four (inl is) = ap Err is
        of_four (inr (inl is)) = absurd (h.no_register ((register_exactly rows table bs).0 (e ∙ ap Err is)))
        of_four (inr (inr (inl is))) = absurd (h.no_test ((test_exactly rows table bs).0 (e ∙ ap Err is)))
        of_four (inr (inr (inr is))) = absurd (h.no_front (cut_is_front rows table bs (e ∙ ap Err is)))

    back : IsRefused rows bs ⊎ IsNothing rows bs → token_from rows bs ≡ Err Ill
    back (inl refused) = refused_is_ill rows table bs refused
    back (inr h) = by (token_from rows bs) refl h

past_fillers : (fillers bs : List ℕ) → AllByRecursion (λ b. is_filler b ≡ true) fillers → BeginsNoFiller bs → after_fillers (fillers ++ bs) ≡ bs
unfolding after_fillers
past_fillers [] [] all none = refl
past_fillers [] (b ∷ bs) all none = ap (λ v. cond v (after_fillers bs) (b ∷ bs)) none
past_fillers (f ∷ fillers) bs all none = ap (λ v. cond v (after_fillers (fillers ++ bs)) (f ∷ (fillers ++ bs))) all.0 ∙ past_fillers fillers bs all.1 none

pub passes_fillers : PassesFillers
unfolding scan
passes_fillers p fillers bs all none = ap (scan_here p) (past_fillers fillers bs all none)
