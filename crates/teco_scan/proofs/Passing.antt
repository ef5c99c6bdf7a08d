-- What a skip and a search for a tag pass byte by byte.
use Rattle.std.proofs.Common.{◌≡◌, ℕ, ◌+◌, ◌<◌, ◌≤◌, Bool, true, false, cond, List, [], ◌∷◌, drop, get_or, length, Ok, refl, sym, ap, ◌∙◌, arith, eqb, leb-true}
use Rattle.std.specs.Prelude.{nat_le}
use Rattle.std.proofs.lemmas.Bool.{eqb-true, false_from_ne_true}
use Rattle.teco_core.specs.Ascii.{is_digit, is_filler}
use Rattle.teco_scan.specs.declared.command.Modifiers.{Modifiers}
use Rattle.teco_scan.specs.declared.command.Bare.{Bare}
use Rattle.teco_scan.specs.declared.command.Form.{Form}
use Rattle.teco_scan.specs.declared.command.Form.TheVariants as form
use Rattle.teco_core.specs.declared.profile.Profile.{Profile}
use Rattle.teco_scan.specs.Scan.{rows_of, Item, step, bare, digits, escape, found, no_modifiers, operand_at, run_of, after_run, token_from, scanned, after_fillers, scan_here, scan}
use Rattle.teco_scan.specs.FirstRow.{named_at, with_operand}
use Rattle.teco_scan.specs.Lists.{at_scan, list_at, tag_at, tag_at_scan}
use Rattle.teco_scan.specs.Skip.{AreAlike}
use Rattle.teco_scan.proofs.ListUnrolls.{list_step}
use Rattle.teco_scan.proofs.SearchUnrolls.{tag_step}
use Rattle.teco_scan.proofs.SkipSteps.{list_found, tag_found}
use Rattle.teco_scan.proofs.Places.{front}
use Rattle.teco_scan.proofs.SpelledReads.{both}
use Rattle.teco_scan.proofs.FirstRow.{token_named}

module _ (profile : Profile) where
  -- a step, and ESC, are passed
  step_alike : (bs more : List ℕ) (m : Modifiers) (i : Item) → scan profile bs ≡ found (record { modifiers = m; instruction = step i }) more → AreAlike profile bs more
  step_alike bs more m i e = record {
    closes = λ k d. ap (λ l. l.1) (list_found profile k d bs (found (record { modifiers = m; instruction = step i }) more) (sym e));
    finds = λ name d. tag_found profile name d bs (found (record { modifiers = m; instruction = step i }) more) (sym e);
  }

  escape_alike : (bs more : List ℕ) (m : Modifiers) → scan profile bs ≡ found (record { modifiers = m; instruction = escape }) more → AreAlike profile bs more
  escape_alike bs more m e = record {
    closes = λ k d. ap (λ l. l.1) (list_found profile k d bs (found (record { modifiers = m; instruction = escape }) more) (sym e));
    finds = λ name d. tag_found profile name d bs (found (record { modifiers = m; instruction = escape }) more) (sym e);
  }

  same_scan : (bs more : List ℕ) → scan profile bs ≡ scan profile more → AreAlike profile bs more
  same_scan bs more e = record {
    closes = λ k d. ap (λ l. l.1) (list_step profile k d bs ∙ ap (λ s. at_scan (list_at profile) s k d) e ∙ sym (list_step profile k d more));
    finds = λ name d. tag_step profile name d bs ∙ ap (λ s. tag_at_scan profile name (tag_at profile name) s d) e ∙ sym (tag_step profile name d more);
  }

  pub filler_passed : (b : ℕ) (bs : List ℕ) → is_filler b ≡ true → AreAlike profile (b ∷ bs) bs
  unfolding scan after_fillers
  filler_passed b bs e = same_scan (b ∷ bs) bs (ap (λ v. scan_here profile (cond v (after_fillers bs) (b ∷ bs))) e)

  scan_first : (b : ℕ) (bs : List ℕ) → is_filler b ≡ false → scan profile (b ∷ bs) ≡ scanned (token_from (rows_of profile) (b ∷ bs))
  unfolding scan after_fillers
  scan_first b bs e = ap (λ v. scan_here profile (cond v (after_fillers bs) (b ∷ bs))) e

differs : (b n : ℕ) → (b ≡ n → ⊥) → eqb b n ≡ false
differs b n ne = false_from_ne_true (eqb b n) (λ e. ne (eqb-true b n e))

digit_no_filler : (b : ℕ) → is_digit b ≡ true → is_filler b ≡ false
digit_no_filler b e =
    let low : 48 ≤ b = leb-true 48 b (both (nat_le 48 b) (nat_le b 57) e).0 in
    rw (differs b 32 (λ is. absurd (omega arith)), differs b 13 (λ is. absurd (omega arith)), differs b 10 (λ is. absurd (omega arith)), differs b 0 (λ is. absurd (omega arith)))

module _ (profile : Profile) where
  run_first : (b : ℕ) (bs : List ℕ) → is_digit b ≡ true → AreAlike profile (b ∷ bs) (after_run bs)
  unfolding token_from after_run
  run_first b bs e = step_alike profile (b ∷ bs) (after_run bs) no_modifiers (digits (run_of (b ∷ bs))) (scan_first profile b bs (digit_no_filler b e) ∙ rw e)

  turned : {bs more : List ℕ} → AreAlike profile bs more → AreAlike profile more bs
  turned h = record { closes = λ k d. sym (h.closes k d); finds = λ name d. sym (h.finds name d) }

  after_first : (c : ℕ) (cs : List ℕ) (v : Bool) → v ≡ is_digit c → AreAlike profile (cond v (after_run cs) (c ∷ cs)) (c ∷ cs)
  after_first c cs true e = turned (run_first c cs (sym e))
  after_first c cs false e = same_scan profile (c ∷ cs) (c ∷ cs) refl

  rest_of_run : (bs : List ℕ) → AreAlike profile (after_run bs) bs
  unfolding after_run
  rest_of_run [] = same_scan profile [] [] refl
  rest_of_run (c ∷ cs) = after_first c cs (is_digit c) refl

  -- The first of several digits is passed by itself: what follows is a run too.
  pub digit_passed : (b : ℕ) (bs : List ℕ) → is_digit b ≡ true → AreAlike profile (b ∷ bs) bs
  digit_passed b bs e =
      let first = run_first b bs e in
      let rest = rest_of_run bs in
      record { closes = λ k d. first.closes k d ∙ rest.closes k d; finds = λ name d. first.finds name d ∙ rest.finds name d }

  lone_scan : (b : ℕ) (bs : List ℕ) (f : Form) → is_filler b ≡ false → is_digit b ≡ false → named_at (rows_of profile) (b ∷ bs) ≡ Ok ((no_modifiers, f), bs) → scan profile (b ∷ bs) ≡ scanned (with_operand (Ok ((no_modifiers, f), bs)))
  lone_scan b bs f filler digit named = scan_first profile b bs filler ∙ ap scanned (token_named (rows_of profile) (b ∷ bs) digit ∙ ap with_operand named)

  -- a command that is one byte, and has nothing after that
  pub bare_passed : (b : ℕ) (bs : List ℕ) (f : Form) (c : Bare) → is_filler b ≡ false → is_digit b ≡ false → named_at (rows_of profile) (b ∷ bs) ≡ Ok ((no_modifiers, f), bs) → f ≡ form.Bare c → AreAlike profile (b ∷ bs) bs
  unfolding operand_at
  bare_passed b bs f c filler digit named is = step_alike profile (b ∷ bs) bs no_modifiers (bare c) (lone_scan b bs f filler digit named ∙ ap (λ (f : Form). scanned (with_operand (Ok ((no_modifiers, f), bs)))) is)

  pub escape_passed : (b : ℕ) (bs : List ℕ) (f : Form) → is_filler b ≡ false → is_digit b ≡ false → named_at (rows_of profile) (b ∷ bs) ≡ Ok ((no_modifiers, f), bs) → f ≡ form.Escape → AreAlike profile (b ∷ bs) bs
  unfolding operand_at
  escape_passed b bs f filler digit named is = escape_alike profile (b ∷ bs) bs no_modifiers (lone_scan b bs f filler digit named ∙ ap (λ (f : Form). scanned (with_operand (Ok ((no_modifiers, f), bs)))) is)

-- one byte more is passed
pub passed_on : (xs : List ℕ) (at to : ℕ) → to < length xs → ((p : Profile) → AreAlike p (drop at xs) (drop to xs)) → ((p : Profile) (bs : List ℕ) → AreAlike p (get_or xs to 0 ∷ bs) bs)
    → (p : Profile) → AreAlike p (drop at xs) (drop (to + 1) xs)
passed_on xs at to lt before here p = record {
  closes = λ k d. (before p).closes k d ∙ ap (λ bs. (list_at p k d bs).1) (front xs to lt) ∙ (here p (drop (to + 1) xs)).closes k d;
  finds = λ name d. (before p).finds name d ∙ ap (λ bs. tag_at p name d bs) (front xs to lt) ∙ (here p (drop (to + 1) xs)).finds name d;
}
