-- The nth occurrence, by the number's sign.
use Rattle.std.proofs.Common.{◌≡◌, ◌≢◌, ℕ, zero, suc, ◌-◌, ◌<◌, ◌≤◌, List, Option, length, false, sym, ap, subst, ◌∙◌, refl, arith, pos, negsuc}
use Rattle.std.specs.Prelude.{ℤ, slice_get, IfSome}
use Rattle.std.proofs.lemmas.Bool.{true≢false, lt-ltb}
use Rattle.std.proofs.lemmas.Int.{ints}
use Rattle.teco_search.specs.Occurrence.{Sought, Span, forward, backward, occurrence}
use Rattle.teco_search.specs.Law.{FindsNext, FindsLastBy}
use Rattle.teco_search.proofs.Laws.{finds_next, finds_last, nth_forward_long, nth_backward_long}
use lib.Signed.{lt_z, ◌<ℤ◌}
use lib.IntN.{nat_abs}

module _ (sought : Sought) (text : List ℕ) (from : ℕ) where
  pub occurrence_forward : (z : ℤ) (m : ℕ) → pos 0 <ℤ z → m ≡ nat_abs z → slice_get (forward sought text from) (m - 1) ≡ occurrence sought text from z
  unfolding occurrence
  occurrence_forward (pos zero) m above is = absurd (omega (arith, ints))
  occurrence_forward (pos (suc n)) m above is = let one_less : m - 1 ≡ n = omega (arith, is) in ap (slice_get (forward sought text from)) one_less
  occurrence_forward (negsuc n) m above is = absurd (omega (arith, ints))

  pub occurrence_backward : (z : ℤ) (m : ℕ) → lt_z (pos 0) z ≡ false → z ≢ pos 0 → m ≡ nat_abs z → slice_get (backward sought text from) (m - 1) ≡ occurrence sought text from z
  unfolding occurrence
  occurrence_backward (pos zero) m above other is = absurd (other refl)
  occurrence_backward (pos (suc n)) m above other is = absurd (true≢false (sym (lt-ltb 0 (suc n) (omega arith)) ∙ above))
  occurrence_backward (negsuc n) m above other is = let one_less : m - 1 ≡ n = omega (arith, is) in ap (slice_get (backward sought text from)) one_less

  module _ (some : 0 < length sought.elements) where
    long : (z : ℤ) → IfSome (occurrence sought text from z) (λ m. (m.0 < m.1) × (m.1 ≤ length text))
    unfolding occurrence
    long (pos zero) = tt
    long (pos (suc n)) = nth_forward_long sought text some n from
    long (negsuc n) = nth_backward_long sought text some n from

    next : FindsNext sought text from (occurrence sought text from (pos 1))
    unfolding occurrence
    next = finds_next sought text some from

    last : FindsLastBy sought text from (occurrence sought text from (negsuc 0))
    unfolding occurrence
    last = finds_last sought text some from

    -- What is told of an occurrence beside its value.
    module _ (z : ℤ) (r : Option Span) (value : r ≡ occurrence sought text from z) where
      pub occurrence_within : IfSome r (λ m. (m.0 < m.1) × (m.1 ≤ length text))
      occurrence_within = let P : Option Span → Type 0 = λ o. IfSome o (λ m. (m.0 < m.1) × (m.1 ≤ length text)) in subst P (sym value) (long z)

      pub occurrence_next : z ≡ pos 1 → FindsNext sought text from r
      occurrence_next one = subst (FindsNext sought text from) (sym (value ∙ ap (occurrence sought text from) one)) next

      pub occurrence_last : z ≡ negsuc 0 → FindsLastBy sought text from r
      occurrence_last one = subst (FindsLastBy sought text from) (sym (value ∙ ap (occurrence sought text from) one)) last
