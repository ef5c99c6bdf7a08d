-- Where bytes that admit themselves alone are, as the occurrences of the pattern that they are.
use Rattle.std.proofs.Common.{◌≡◌, ℕ, ◌+◌, ◌-◌, ◌<◌, List, [], ◌∷◌, length, map, true, Some, None, sym, ap, subst, arith, ⊎_elim, pos}
use Rattle.std.specs.Prelude.{min, slice_get}
use Rattle.std.specs.List.{list_all}
use Rattle.std.proofs.lemmas.Bool.{cases_lt}
use Rattle.std.proofs.lemmas.List.{length-map}
use Rattle.memchr.specs.Find.{OccursAt, FindsNeedle, FindsLastNeedleBy}
use Rattle.teco_core.specs.declared.case_mode.CaseMode.{CaseMode}
use Rattle.teco_search.specs.declared.search.Forward.{Forward}
use Rattle.teco_search.specs.declared.search.Forward.TheVariants as forwards
use Rattle.teco_search.specs.declared.search.Backward.{Backward}
use Rattle.teco_search.specs.declared.search.Backward.TheVariants as backwards
use Rattle.teco_search.specs.Literal.{plain, is_exact, IsLiteral}
use Rattle.teco_search.specs.Occurrence.{looked_for, match_end, forward, backward_ending_by, backward, occurrence}
use Rattle.teco_search.specs.Search.{sought_forward, sought_backward, IsReadyForward, IsReadyBackward}
use Rattle.teco_search.proofs.Past.{match_past}
use Rattle.teco_search.proofs.Occurring.{forward-none, forward-some, ending_by-none, ending_by-some, backward-none, backward-some}
use Rattle.teco_search.proofs.Literals.{literal_hit, literal_only, literal_none}

-- what a search that is ready for bytes holds
pub ready_forward : (mode : CaseMode) (bytes : List ℕ) (search : Forward) → search ≡ forwards.Literal mode bytes → IsReadyForward search → IsLiteral mode bytes
ready_forward mode bytes search is ready = subst IsReadyForward is ready

pub ready_backward : (mode : CaseMode) (bytes : List ℕ) (search : Backward) → search ≡ backwards.Literal mode bytes → IsReadyBackward search → IsLiteral mode bytes
ready_backward mode bytes search is ready = subst IsReadyBackward is ready

-- There is something to look for.
pub ready_some : (search : Forward) → IsReadyForward search → 0 < length (sought_forward search).elements
ready_some (forwards.Literal mode bytes) ready = omega (arith, ready.some, length-map bytes plain)
ready_some (forwards.Bytes mode bytes anchor) ready = omega (arith, ready.within)
ready_some (forwards.Elements mode es anchor) ready = omega (arith, ready.within)

pub ready_some_backward : (search : Backward) → IsReadyBackward search → 0 < length (sought_backward search).elements
ready_some_backward (backwards.Literal mode bytes) ready = omega (arith, ready.some, length-map bytes plain)
ready_some_backward (backwards.Elements mode es anchor) ready = omega (arith, ready.within)

module _ (mode : CaseMode) (bytes text : List ℕ) (some : 0 < length bytes) (exact : list_all (is_exact mode) bytes ≡ true) where
  several : 0 < length (map plain bytes)
  several = omega (arith, length-map bytes plain)

  tells : (k q : ℕ) → match_end mode (map plain bytes) text k ≡ Some q → OccursAt text bytes k × (q ≡ k + length bytes)
  tells k q is =
      let ends = match_past mode (map plain bytes) text k q several is in
      literal_only mode text bytes k q (omega (arith, ends.past, ends.within)) exact is

  pub literal_forward-none : (from : ℕ) → FindsNeedle text bytes from None → forward (looked_for mode (map plain bytes)) text from ≡ []
  literal_forward-none from none =
      forward-none (looked_for mode (map plain bytes)) text several from (λ k low high. literal_none mode text bytes k some exact (none k low (omega arith)))

  pub literal_forward-some :
      (from s : ℕ) → FindsNeedle text bytes from (Some s)
      → forward (looked_for mode (map plain bytes)) text from ≡ (s, s + length bytes) ∷ forward (looked_for mode (map plain bytes)) text (s + length bytes)
  literal_forward-some from s found =
      forward-some (looked_for mode (map plain bytes)) text several from s (s + length bytes) found.0.low (literal_hit mode text bytes s exact found.1)
      (λ j low below. literal_none mode text bytes j some exact (found.0.before j low below))

  -- the first of them forward
  pub literal_first-none : (from : ℕ) → FindsNeedle text bytes from None → None ≡ occurrence (looked_for mode (map plain bytes)) text from (pos 1)
  unfolding occurrence
  literal_first-none from none = sym (ap (λ ms. slice_get ms 0) (literal_forward-none from none))

  pub literal_first-some : (from s : ℕ) → FindsNeedle text bytes from (Some s) → Some (s, s + length bytes) ≡ occurrence (looked_for mode (map plain bytes)) text from (pos 1)
  unfolding occurrence
  literal_first-some from s found = sym (ap (λ ms. slice_get ms 0) (literal_forward-some from s found))

  pub literal_ending_by-none : (to : ℕ) → FindsLastNeedleBy text bytes to None → backward_ending_by (looked_for mode (map plain bytes)) text to ≡ []
  literal_ending_by-none to none =
      ending_by-none (looked_for mode (map plain bytes)) text several to (λ k q below is.
      let here = tells k q is in
      ⊎_elim (λ beyond. beyond) (λ by. absurd (none k (omega arith) (omega (arith, here.1)) here.0)) (cases_lt to q))

  pub literal_ending_by-some :
      (to s : ℕ) → FindsLastNeedleBy text bytes to (Some s)
      → backward_ending_by (looked_for mode (map plain bytes)) text to ≡ (s, s + length bytes) ∷ backward_ending_by (looked_for mode (map plain bytes)) text s
  literal_ending_by-some to s found =
      ending_by-some (looked_for mode (map plain bytes)) text several to s (s + length bytes) (literal_hit mode text bytes s exact found.1) (omega (arith, found.0.high))
      (λ j q above below is.
      let here = tells j q is in
      ⊎_elim (λ beyond. beyond) (λ by. absurd (found.0.after j (omega arith) (omega (arith, here.1)) here.0)) (cases_lt to q))

  pub literal_backward-none :
      (from to : ℕ) → to ≡ from + min (length bytes) (length text - from) → FindsLastNeedleBy text bytes to None → backward (looked_for mode (map plain bytes)) text from ≡ []
  literal_backward-none from to is none =
      backward-none (looked_for mode (map plain bytes)) text several from (λ k by high. literal_none mode text bytes k some exact (λ occurs.
      let fits = occurs.fits in
      none k (omega arith) (omega arith) occurs))

  pub literal_backward-some :
      (from to s : ℕ) → to ≡ from + min (length bytes) (length text - from) → FindsLastNeedleBy text bytes to (Some s)
      → backward (looked_for mode (map plain bytes)) text from ≡ (s, s + length bytes) ∷ backward_ending_by (looked_for mode (map plain bytes)) text s
  literal_backward-some from to s is found =
      let high = found.0.high in
      backward-some (looked_for mode (map plain bytes)) text several from s (s + length bytes) (omega arith) (literal_hit mode text bytes s exact found.1)
      (λ j above by below. literal_none mode text bytes j some exact (λ occurs.
      let fits = occurs.fits in
      found.0.after j (omega arith) (omega arith) occurs))
