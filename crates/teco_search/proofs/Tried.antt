-- Starts that come to the same run of spaces and tabs end up at the same end.
use Rattle.std.proofs.Common.{◌≡◌, ◌≢◌, ℕ, zero, suc, ◌+◌, ◌<◌, ◌≤◌, List, [], ◌∷◌, length, drop, get_or, Some, refl, sym, ap, subst, ◌∙◌, arith, ⊎_elim}
use Rattle.std.proofs.lemmas.Bool.{cases_lt}
use Rattle.std.proofs.lemmas.List.{at_drop_more}
use Rattle.std.proofs.lemmas.Option.{option_and_then_some, get_or_from_slice_get}
use Rattle.teco_core.specs.declared.case_mode.CaseMode.{CaseMode}
use Rattle.teco_search.specs.declared.element.Element.{Element}
use Rattle.teco_search.specs.declared.element.Element.TheVariants.{Blanks}
use Rattle.teco_search.specs.Anchor.{AreSingle}
use Rattle.teco_search.specs.Occurrence.{blanks_at, element_end, match_end}
use Rattle.teco_search.proofs.Anchored.{ends_next}
use Rattle.teco_search.proofs.Runs.{match_run}

-- one more element that takes one byte
pub single_more : (es : List Element) (i : ℕ) (e : Element) → AreSingle es i → e ≡ get_or es i e → e ≢ Blanks → AreSingle es (i + 1)
single_more es i e single here other k d low there =
    ⊎_elim (λ early. single k d early there)
    (λ late.
    let same : k ≡ i = omega arith in
    let is : e ≡ d = here ∙ ap (λ j. get_or es j e) (sym same) ∙ get_or_from_slice_get es k d e there in
    λ blanks. other (is ∙ blanks))
    (cases_lt k i)

-- A match goes on after elements of one byte each.
after_singles : (mode : CaseMode) (es : List Element) (i : ℕ) (text : List ℕ) (k q : ℕ) → i ≤ length es → AreSingle es i → match_end mode es text k ≡ Some q → match_end mode (drop i es) text (k + i) ≡ Some q
unfolding match_end
after_singles mode es zero text k q within single is = ap (match_end mode es text) (omega arith) ∙ is
after_singles mode [] (suc i) text k q within single is = absurd (omega arith)
after_singles mode (e ∷ es) (suc i) text k q within single is =
    option_and_then_some {P = match_end mode (drop i es) text (k + suc i) ≡ Some q} (match_end mode es text) (element_end mode e text k) q is (λ r first later.
    let next = ends_next mode e text k r (single zero e (omega arith) refl) first in
    let along : r + i ≡ k + suc i = omega (arith, next) in
    subst (λ p. match_end mode (drop i es) text p ≡ Some q) along (after_singles mode es i text r q (omega arith) (λ j d below here. single (suc j) d (omega arith) here) later))

-- Where it comes to a run, it goes on at the end of that.
pub after_run : (mode : CaseMode) (es : List Element) (i : ℕ) (e : Element) (text : List ℕ) (k end q : ℕ) → i < length es → e ≡ get_or es i e → e ≡ Blanks → AreSingle es i
    → k + i + blanks_at text (k + i) ≡ end → k + i < end → match_end mode es text k ≡ Some q → match_end mode (drop (i + 1) es) text end ≡ Some q
after_run mode es i e text k end q inside here is single to some matches =
    sym (match_run mode (drop (i + 1) es) text (k + i) end to some)
    ∙ ap (λ d. match_end mode (d ∷ drop (i + 1) es) text (k + i)) (sym is ∙ here)
    ∙ sym (at_drop_more (λ ds. match_end mode ds text (k + i)) es i e inside)
    ∙ after_singles mode es i text k q (omega arith) single matches
