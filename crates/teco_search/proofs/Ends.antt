-- Matching one element after the other.
use Rattle.std.proofs.Common.{◌≡◌, ℕ, ◌+◌, ◌<◌, ◌≤◌, List, length, drop, get_or, Some, None, ◌∙◌}
use Rattle.std.proofs.lemmas.List.{at_drop_more, at_drop_all}
use Rattle.teco_core.specs.declared.case_mode.CaseMode.{CaseMode}
use Rattle.teco_search.specs.declared.element.Element.{Element}
use Rattle.teco_search.specs.Occurrence.{element_end, match_end}

module _ (mode : CaseMode) (es : List Element) (i : ℕ) (e : Element) (text : List ℕ) (p : ℕ) where
  pub match_more : (q : ℕ) → i < length es → e ≡ get_or es i e → element_end mode e text p ≡ Some q → match_end mode (drop i es) text p ≡ match_end mode (drop (i + 1) es) text q
  unfolding match_end
  match_more q inside here end = at_drop_more (λ rest. match_end mode rest text p) es i e inside ∙ rw (← here, end)

  pub match_stop : i < length es → e ≡ get_or es i e → element_end mode e text p ≡ None → match_end mode (drop i es) text p ≡ None
  unfolding match_end
  match_stop inside here end = at_drop_more (λ rest. match_end mode rest text p) es i e inside ∙ rw (← here, end)

module _ (mode : CaseMode) (es : List Element) (i : ℕ) (text : List ℕ) (p : ℕ) where
  pub match_done : length es ≤ i → match_end mode (drop i es) text p ≡ Some p
  unfolding match_end
  match_done past = at_drop_all (λ rest. match_end mode rest text p) es i past
