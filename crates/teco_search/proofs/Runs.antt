-- Runs of spaces and tabs from a place on.
use Rattle.std.proofs.Common.{◌≡◌, ℕ, zero, suc, ◌+◌, ◌<◌, ◌≤◌, inl, inr, true, false, cond, eqb, List, length, Option, Some, None, refl, sym, ap, ◌∙◌, arith, ◌∷◌, ⊎_elim, add-zero}
use Rattle.std.specs.List.{slice_get}
use Rattle.std.proofs.lemmas.Option.{slice_get_within, slice_get_cases, none-some, same_Some, get_or_from_slice_get}
use Rattle.std.proofs.lemmas.List.Sums.{prefix_len-drop_yes, prefix_len-drop_no, prefix_len-drop_all}
use Rattle.std.proofs.lemmas.Bool.{ne_eqb, cases_Bool}
use Rattle.teco_core.specs.declared.case_mode.CaseMode.{CaseMode}
use Rattle.teco_search.specs.declared.element.Element.{Element}
use Rattle.teco_search.specs.declared.element.Element.TheVariants.{Blanks}
use Rattle.teco_search.specs.Element.{is_blank}
use Rattle.teco_search.specs.Occurrence.{blanks_at, element_end, match_end}

-- a run has one more before its first
pub blanks_more : (text : List ℕ) (p b : ℕ) → slice_get text p ≡ Some b → is_blank b ≡ true → blanks_at text p ≡ 1 + blanks_at text (p + 1)
blanks_more text p b here yes_is =
    prefix_len-drop_yes is_blank text p 0 (slice_get_within text p b here) (ap is_blank (get_or_from_slice_get text p b 0 here) ∙ yes_is)

-- a run ends before another byte
pub blanks_stop : (text : List ℕ) (p b : ℕ) → slice_get text p ≡ Some b → is_blank b ≡ false → blanks_at text p ≡ 0
blanks_stop text p b here no_is =
    prefix_len-drop_no is_blank text p 0 (slice_get_within text p b here) (ap is_blank (get_or_from_slice_get text p b 0 here) ∙ no_is)

past_end : (xs : List ℕ) (k : ℕ) → slice_get xs k ≡ None → length xs ≤ k
past_end xs k none = elim (slice_get_cases xs k).1 [ inl here ↦ absurd (none-some here.0 (sym none ∙ here.2)) | inr past ↦ past.0 ]

-- and at the end
pub blanks_none : (text : List ℕ) (p : ℕ) → slice_get text p ≡ None → blanks_at text p ≡ 0
blanks_none text p none = prefix_len-drop_all is_blank text p (past_end text p none)

pub blanks_past : (text : List ℕ) (p : ℕ) → length text ≤ p → blanks_at text p ≡ 0
blanks_past text p past = prefix_len-drop_all is_blank text p past

-- A run and then other elements match from the end of the run,
pub match_run : (mode : CaseMode) (rest : List Element) (text : List ℕ) (p end : ℕ) → p + blanks_at text p ≡ end → p < end → match_end mode (Blanks ∷ rest) text p ≡ match_end mode rest text end
unfolding match_end element_end
match_run mode rest text p end is past =
    let some : blanks_at text p ≡ 0 → ⊥ = λ none. omega (arith, is, none) in
    rw (ne_eqb (blanks_at text p) 0 some) (ap (match_end mode rest text) is)

-- and nowhere else.
pub match_no_run : (mode : CaseMode) (rest : List Element) (text : List ℕ) (p : ℕ) → blanks_at text p ≡ 0 → match_end mode (Blanks ∷ rest) text p ≡ None
unfolding match_end element_end
match_no_run mode rest text p none = rw none

-- The places of a run come to one end.
pub inside_run : (text : List ℕ) (p d : ℕ) → d < blanks_at text p → p + d + blanks_at text (p + d) ≡ p + blanks_at text p
inside_run text p zero inside = ap (λ i. i + blanks_at text i) (add-zero p)
inside_run text p (suc d) inside = by (inside_run text p d (omega arith)) (slice_get text (p + d)) refl
  where
    next : p + d + 1 ≡ p + suc d
    next = omega arith

    by : p + d + blanks_at text (p + d) ≡ p + blanks_at text p → (o : Option ℕ) → slice_get text (p + d) ≡ o → p + suc d + blanks_at text (p + suc d) ≡ p + blanks_at text p
    by before None here = absurd (omega (arith, before, blanks_none text (p + d) here))
    by before (Some b) here = ⊎_elim
        (λ blank. ap (λ i. i + blanks_at text i) (sym next) ∙ omega (arith, before, blanks_more text (p + d) b here blank))
        (λ other. absurd (omega (arith, before, blanks_stop text (p + d) b here other)))
        (cases_Bool (is_blank b))

-- What a run matches.
pub run_ends : (mode : CaseMode) (text : List ℕ) (p q : ℕ) → element_end mode Blanks text p ≡ Some q → (q ≡ p + blanks_at text p) × (0 < blanks_at text p)
unfolding element_end
run_ends mode text p q is = by (blanks_at text p) is
  where
    by : (n : ℕ) → cond (eqb n 0) None (Some (p + n)) ≡ Some q → (q ≡ p + n) × (0 < n)
    by zero e = absurd (none-some q e)
    by (suc n) e = let same = same_Some (p + suc n) q (rw (ne_eqb (suc n) 0 (λ zero_is. omega (arith, zero_is))) at e) in (sym same, omega arith)
