-- What a search place by place knows, as what the occurrences are.
use Rattle.std.proofs.Common.{◌≡◌, ℕ, ◌<◌, ◌≤◌, List, [], ◌∷◌, length, Option, Some, None, sym, ◌∙◌, arith, ⊎_elim}
use Rattle.std.proofs.lemmas.Bool.{lt-leb, le-leb, cases_lt}
use Rattle.std.proofs.lemmas.Option.{none-some}
use Rattle.teco_search.specs.Occurrence.{Sought, starts_by, ends_by, match_end, match_at, matches, forward, backward_ending_by, backward}
use Rattle.teco_search.proofs.Choosing.{forward_none, forward_hit, backward_none, backward_hit}
use Rattle.teco_search.proofs.Past.{EndsPast, match_past, match_at-hit, match_at-none, match_at-start, placed}

module _ (sought : Sought) (text : List ℕ) (some : 0 < length sought.elements) where
  matched : ℕ → Option ℕ
  matched p = match_end sought.mode sought.elements text p

  pub ends_past : (p q : ℕ) → match_end sought.mode sought.elements text p ≡ Some q → EndsPast text p q
  ends_past p q is = match_past sought.mode sought.elements text p q some is

  pub forward-none : (from : ℕ) → ((k : ℕ) → from ≤ k → k < length text → match_end sought.mode sought.elements text k ≡ None) → forward sought text from ≡ []
  unfolding forward matches
  forward-none from none = forward_none (match_at sought text) (placed sought text some) (length text) from (λ k low high. match_at-none sought text k (none k low high))

  pub forward-some :
      (from k q : ℕ) → from ≤ k → match_end sought.mode sought.elements text k ≡ Some q → ((j : ℕ) → from ≤ j → j < k → match_end sought.mode sought.elements text j ≡ None)
      → forward sought text from ≡ (k, q) ∷ forward sought text q
  unfolding forward matches
  forward-some from k q low is none =
      let ends = ends_past k q is in
      forward_hit (match_at sought text) (placed sought text some) (length text) from k (k, q) low (omega (arith, ends.past, ends.within)) (match_at-hit sought text k q is)
      (λ j a b. match_at-none sought text j (none j a b))

  pub ending_by-none : (to : ℕ) → ((k q : ℕ) → k < to → match_end sought.mode sought.elements text k ≡ Some q → to < q) → backward_ending_by sought text to ≡ []
  unfolding backward_ending_by matches
  ending_by-none to none =
      backward_none (match_at sought text) (placed sought text some) (length text) (ends_by to) (λ k m high is.
      let here = match_at-start sought text k m is in
      let ends = ends_past k m.1 here.1 in
      lt-leb m.1 to (⊎_elim (λ below. none k m.1 below here.1) (λ above. omega (arith, ends.past)) (cases_lt k to)))

  pub ending_by-some :
      (to k q : ℕ) → match_end sought.mode sought.elements text k ≡ Some q → q ≤ to → ((j r : ℕ) → k < j → j < to → match_end sought.mode sought.elements text j ≡ Some r → to < r)
      → backward_ending_by sought text to ≡ (k, q) ∷ backward_ending_by sought text k
  unfolding backward_ending_by matches
  ending_by-some to k q is low none =
      let ends = ends_past k q is in
      backward_hit (match_at sought text) (placed sought text some) (length text) (ends_by to) k (k, q) (omega (arith, ends.past, ends.within)) (match_at-hit sought text k q is) (le-leb q to low)
      (λ j o above high at.
      let here = match_at-start sought text j o at in
      let later = ends_past j o.1 here.1 in
      lt-leb o.1 to (⊎_elim (λ below. none j o.1 above below here.1) (λ beyond. omega (arith, later.past)) (cases_lt j to)))

  pub backward-none : (from : ℕ) → ((k : ℕ) → k ≤ from → k < length text → match_end sought.mode sought.elements text k ≡ None) → backward sought text from ≡ []
  unfolding backward matches
  backward-none from none =
      backward_none (match_at sought text) (placed sought text some) (length text) (starts_by from) (λ k m high is.
      let here = match_at-start sought text k m is in
      lt-leb m.0 from (⊎_elim (λ beyond. omega (arith, here.0)) (λ by. absurd (none-some m.1 (sym (none k by high) ∙ here.1))) (cases_lt from k)))

  pub backward-some :
      (from k q : ℕ) → k ≤ from → match_end sought.mode sought.elements text k ≡ Some q → ((j : ℕ) → k < j → j ≤ from → j < length text → match_end sought.mode sought.elements text j ≡ None)
      → backward sought text from ≡ (k, q) ∷ backward_ending_by sought text k
  unfolding backward backward_ending_by matches
  backward-some from k q low is none =
      let ends = ends_past k q is in
      backward_hit (match_at sought text) (placed sought text some) (length text) (starts_by from) k (k, q) (omega (arith, ends.past, ends.within)) (match_at-hit sought text k q is) (le-leb k from low)
      (λ j o above high at.
      let here = match_at-start sought text j o at in
      lt-leb o.0 from (⊎_elim (λ beyond. omega (arith, here.0)) (λ by. absurd (none-some o.1 (sym (none j above by high) ∙ here.1))) (cases_lt from j)))
