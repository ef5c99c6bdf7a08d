-- The occurrences are what their words say.
use Rattle.std.proofs.Common.{◌≡◌, ◌⊎◌, ℕ, zero, suc, ◌+◌, ◌<◌, ◌≤◌, Bool, true, false, List, [], ◌∷◌, length, Option, Some, None, nat_le, refl, sym, ap, subst, ◌∙◌, arith, inl, inr, ⊎_elim}
use Rattle.std.specs.Prelude.{AllPairs, All, IfSome, slice_get}
use Rattle.std.proofs.lemmas.Bool.{cases_Bool, cases_eq, cases_lt, leb-true, leb-false, both_ways, le-leb}
use Rattle.std.proofs.lemmas.List.Elements.{All-nil, All-cons, All-weaker}
use Rattle.std.proofs.lemmas.List.Kept.{AllPairs-cons}
use Rattle.std.proofs.lemmas.Option.{none-some, same_Some}
use Rattle.teco_search.specs.Occurrence.{Sought, Span, match_end, forward, backward_ending_by, backward}
use Rattle.teco_search.specs.Law.{MatchesTo, FindsNext, FindsLastBy, AreForward, AreBackwardEndingBy, AreBackward}
use Rattle.teco_search.proofs.Past.{none_from}
use Rattle.teco_search.proofs.Occurring.{ends_past, forward-none, forward-some, ending_by-none, ending_by-some, backward-none, backward-some}

-- the first place from one on where a function gives something
pub record FirstAt (f : ℕ → Option ℕ) (from end : ℕ) : Type 0 where
  pub place : ℕ
  pub value : ℕ
  pub low : from ≤ place
  pub high : place < end
  pub is : f place ≡ Some value
  pub none : (j : ℕ) → from ≤ j → j < place → f j ≡ None

first_at : (f : ℕ → Option ℕ) (n from : ℕ) → ((k : ℕ) → from ≤ k → k < from + n → f k ≡ None) ⊎ FirstAt f from (from + n)
first_at f zero from = inl (λ k low high. absurd (omega arith))
first_at f (suc n) from = by (first_at f n (from + 1)) (f from) refl
  where
    by :
        ((k : ℕ) → from + 1 ≤ k → k < from + 1 + n → f k ≡ None) ⊎ FirstAt f (from + 1) (from + 1 + n)
        → (o : Option ℕ) → f from ≡ o → ((k : ℕ) → from ≤ k → k < from + suc n → f k ≡ None) ⊎ FirstAt f from (from + suc n)
    by later (Some q) is = inr (record { place = from; value = q; low = omega arith; high = omega arith; is = is; none = λ j low high. absurd (omega arith) })
    by later None is =
        ⊎_elim
        (λ none. inl (λ k low high. ⊎_elim (λ same. ap f same ∙ is) (λ other. none k (omega arith) (omega arith)) (cases_eq k from)))
        (λ first. inr (record {
          place = first.place;
          value = first.value;
          low = omega (arith, first.low);
          high = omega (arith, first.high);
          is = first.is;
          none = λ j low high. ⊎_elim (λ same. ap f same ∙ is) (λ other. first.none j (omega arith) high) (cases_eq j from);
        }))
        later

-- the last place below one where a function gives something that passes
pub record LastAt (f : ℕ → Option ℕ) (passes : ℕ → ℕ → Bool) (end : ℕ) : Type 0 where
  pub place : ℕ
  pub value : ℕ
  pub high : place < end
  pub is : f place ≡ Some value
  pub here : passes place value ≡ true
  pub none : (j q : ℕ) → place < j → j < end → f j ≡ Some q → passes j q ≡ false

last_at : (f : ℕ → Option ℕ) (passes : ℕ → ℕ → Bool) (n : ℕ) → ((k q : ℕ) → k < n → f k ≡ Some q → passes k q ≡ false) ⊎ LastAt f passes n
last_at f passes zero = inl (λ k q high is. absurd (omega arith))
last_at f passes (suc n) = by (last_at f passes n) (f n) refl
  where
    below : ((k q : ℕ) → k < n → f k ≡ Some q → passes k q ≡ false) ⊎ LastAt f passes n → ((q : ℕ) → f n ≡ Some q → passes n q ≡ false) → ((k q : ℕ) → k < suc n → f k ≡ Some q → passes k q ≡ false) ⊎ LastAt f passes (suc n)
    below earlier fails =
        ⊎_elim
        (λ none. inl (λ k q high is. ⊎_elim (λ same. subst (λ j. passes j q ≡ false) (sym same) (fails q (ap f (sym same) ∙ is))) (λ other. none k q (omega arith) is) (cases_eq k n)))
        (λ last. inr (record {
          place = last.place;
          value = last.value;
          high = omega (arith, last.high);
          is = last.is;
          here = last.here;
          none = λ j q above high is. ⊎_elim (λ same. subst (λ i. passes i q ≡ false) (sym same) (fails q (ap f (sym same) ∙ is))) (λ other. last.none j q above (omega arith) is) (cases_eq j n);
        }))
        earlier

    by : ((k q : ℕ) → k < n → f k ≡ Some q → passes k q ≡ false) ⊎ LastAt f passes n → (o : Option ℕ) → f n ≡ o → ((k q : ℕ) → k < suc n → f k ≡ Some q → passes k q ≡ false) ⊎ LastAt f passes (suc n)
    by earlier None is = below earlier (λ q here. absurd (none-some q (sym is ∙ here)))
    by earlier (Some q) is =
        ⊎_elim
        (λ yes_is. inr (record { place = n; value = q; high = omega arith; is = is; here = yes_is; none = λ j r above high at. absurd (omega arith) }))
        (λ no_is. below earlier (λ r here. subst (λ v. passes n v ≡ false) (same_Some q r (sym is ∙ here)) no_is))
        (cases_Bool (passes n q))

module _ (sought : Sought) (text : List ℕ) (some : 0 < length sought.elements) where
  pub long : (p q : ℕ) → MatchesTo sought text p q → (p < q) × (q ≤ length text)
  long p q is = let ends = ends_past sought text some p q is in (ends.past, ends.within)

  are_forward : (n from : ℕ) → length text ≤ from + n → AreForward sought text from (forward sought text from)
  unfolding AreForward
  are_forward zero from room =
      rw (forward-none sought text some from (λ k low high. absurd (omega arith))) (λ k q low is. let ends = long k q is in absurd (omega (arith, ends.0, ends.1)))
  are_forward (suc n) from room =
      ⊎_elim
      (λ none. rw (forward-none sought text some from (λ k low high. none k low (omega arith))) (λ k q low is.
      let ends = long k q is in absurd (none-some q (sym (none k low (omega (arith, ends.0, ends.1))) ∙ is))))
      (λ first.
      let ends = long first.place first.value first.is in
      rw (forward-some sought text some from first.place first.value first.low first.is first.none) (
        record {
          matches = first.is;
          after = first.low;
          least = λ k q low is. ⊎_elim (λ early. absurd (none-some q (sym (first.none k low early) ∙ is))) (λ late. late) (cases_lt k first.place);
        },
        are_forward n first.value (omega (arith, ends.0, first.low)),
      ))
      (first_at (match_end sought.mode sought.elements text) (suc n) from)

  only_forward : (from : ℕ) (ms : List Span) → AreForward sought text from ms → ms ≡ forward sought text from
  unfolding AreForward
  only_forward from [] none = sym (forward-none sought text some from (λ k low high. none_from (match_end sought.mode sought.elements text k) (λ q is. none k q low is)))
  only_forward from (m ∷ ms) are =
      let first = are.0 in
      ap (λ os. m ∷ os) (only_forward m.1 ms are.1)
      ∙ sym (forward-some sought text some from m.0 m.1 first.after first.matches (λ j low below.
      none_from (match_end sought.mode sought.elements text j) (λ q is. let least = first.least j q low is in absurd (omega arith))))

  pub forward_law : (from : ℕ) (ms : List Span) → (AreForward sought text from ms → ms ≡ forward sought text from) × (ms ≡ forward sought text from → AreForward sought text from ms)
  forward_law from ms = (only_forward from ms, λ same. subst (AreForward sought text from) (sym same) (are_forward (length text) from (omega arith)))

  are_ending_by : (n to : ℕ) → to ≤ n → AreBackwardEndingBy sought text to (backward_ending_by sought text to)
  unfolding AreBackwardEndingBy
  are_ending_by zero to room =
      rw (ending_by-none sought text some to (λ k q high is. absurd (omega arith))) (λ k q by is. let ends = long k q is in absurd (omega (arith, ends.0)))
  are_ending_by (suc n) to room =
      ⊎_elim
      (λ none. rw (ending_by-none sought text some to (λ k q high is. let ends = long k q is in leb-false q to (none k q (omega (arith, ends.0, ends.1)) is))) (λ k q by is.
      let ends = long k q is in absurd (both_ways (nat_le q to) (none k q (omega (arith, ends.0, ends.1)) is) (le-leb q to by))))
      (λ (last : LastAt (match_end sought.mode sought.elements text) (λ k q. nat_le q to) (length text)).
      let ends = long last.place last.value last.is in
      let by : last.value ≤ to = leb-true last.value to last.here in
      rw (ending_by-some sought text some to last.place last.value last.is by (λ j q above high is. let later = long j q is in leb-false q to (last.none j q above (omega (arith, later.0, later.1)) is))) (
        record {
          matches = last.is;
          ends = by;
          highest = λ k q within is. ⊎_elim
              (λ beyond. let later = long k q is in absurd (both_ways (nat_le q to) (last.none k q beyond (omega (arith, later.0, later.1)) is) (le-leb q to within)))
              (λ early. early) (cases_lt last.place k);
        },
        are_ending_by n last.place (omega (arith, ends.0)),
      ))
      (last_at (match_end sought.mode sought.elements text) (λ k q. nat_le q to) (length text))

  only_ending_by : (to : ℕ) (ms : List Span) → AreBackwardEndingBy sought text to ms → ms ≡ backward_ending_by sought text to
  unfolding AreBackwardEndingBy
  only_ending_by to [] none = sym (ending_by-none sought text some to (λ k q high is. ⊎_elim (λ beyond. beyond) (λ by. absurd (none k q by is)) (cases_lt to q)))
  only_ending_by to (m ∷ ms) are =
      let last = are.0 in
      ap (λ os. m ∷ os) (only_ending_by m.0 ms are.1)
      ∙ sym (ending_by-some sought text some to m.0 m.1 last.matches last.ends (λ j q above high is.
      ⊎_elim (λ beyond. beyond) (λ by. let highest = last.highest j q by is in absurd (omega arith)) (cases_lt to q)))

  are_backward : (from : ℕ) → AreBackward sought text from (backward sought text from)
  unfolding AreBackward
  are_backward from =
      ⊎_elim
      (λ none. rw (backward-none sought text some from (λ k by high. none_from (match_end sought.mode sought.elements text k) (λ q is. both_ways (nat_le k from) (none k q high is) (le-leb k from by)))) (λ k q by is.
      let ends = long k q is in absurd (both_ways (nat_le k from) (none k q (omega (arith, ends.0, ends.1)) is) (le-leb k from by))))
      (λ (last : LastAt (match_end sought.mode sought.elements text) (λ k q. nat_le k from) (length text)).
      let by : last.place ≤ from = leb-true last.place from last.here in
      rw (backward-some sought text some from last.place last.value by last.is (λ j above within high.
      none_from (match_end sought.mode sought.elements text j) (λ q is. both_ways (nat_le j from) (last.none j q above high is) (le-leb j from within)))) (
        record {
          matches = last.is;
          by = by;
          highest = λ k q within is. ⊎_elim
              (λ beyond. let later = long k q is in absurd (both_ways (nat_le k from) (last.none k q beyond (omega (arith, later.0, later.1)) is) (le-leb k from within)))
              (λ early. early) (cases_lt last.place k);
        },
        are_ending_by last.place last.place (omega arith),
      ))
      (last_at (match_end sought.mode sought.elements text) (λ k q. nat_le k from) (length text))

  only_backward : (from : ℕ) (ms : List Span) → AreBackward sought text from ms → ms ≡ backward sought text from
  unfolding AreBackward
  only_backward from [] none = sym (backward-none sought text some from (λ k by high. none_from (match_end sought.mode sought.elements text k) (λ q is. none k q by is)))
  only_backward from (m ∷ ms) are =
      let last = are.0 in
      ap (λ os. m ∷ os) (only_ending_by m.0 ms are.1)
      ∙ sym (backward-some sought text some from m.0 m.1 last.by last.matches (λ j above within high.
      none_from (match_end sought.mode sought.elements text j) (λ q is. let highest = last.highest j q within is in absurd (omega arith))))

  pub backward_law : (from : ℕ) (ms : List Span) → (AreBackward sought text from ms → ms ≡ backward sought text from) × (ms ≡ backward sought text from → AreBackward sought text from ms)
  backward_law from ms = (only_backward from ms, λ same. subst (AreBackward sought text from) (sym same) (are_backward from))

  -- Forward they rise and don't overlap.
  all_after : (from : ℕ) (ms : List Span) → AreForward sought text from ms → All (λ o. from ≤ o.0) ms
  unfolding AreForward
  all_after from [] are = All-nil (λ o. from ≤ o.0)
  all_after from (m ∷ ms) are =
      let first = are.0 in
      let ends = long m.0 m.1 first.matches in
      All-cons (λ o. from ≤ o.0) m ms first.after (All-weaker (λ o. m.1 ≤ o.0) (λ o. from ≤ o.0) (λ o later. omega (arith, first.after, ends.0)) ms (all_after m.1 ms are.1))

  rise : (from : ℕ) (ms : List Span) → AreForward sought text from ms → AllPairs (λ m o. m.1 ≤ o.0) ms
  unfolding AreForward
  rise from [] are = λ i j d below inside. absurd (omega arith)
  rise from (m ∷ ms) are = AllPairs-cons (λ a b. a.1 ≤ b.0) m ms (all_after m.1 ms are.1) (rise m.1 ms are.1)

  pub rising : (from : ℕ) → AllPairs (λ m o. m.1 ≤ o.0) (forward sought text from)
  rising from = rise from (forward sought text from) (are_forward (length text) from (omega arith))

  -- Backward they fall and don't overlap.
  all_before : (to : ℕ) (ms : List Span) → AreBackwardEndingBy sought text to ms → All (λ o. o.1 ≤ to) ms
  unfolding AreBackwardEndingBy
  all_before to [] are = All-nil (λ o. o.1 ≤ to)
  all_before to (m ∷ ms) are =
      let last = are.0 in
      let ends = long m.0 m.1 last.matches in
      All-cons (λ o. o.1 ≤ to) m ms last.ends (All-weaker (λ o. o.1 ≤ m.0) (λ o. o.1 ≤ to) (λ o earlier. omega (arith, last.ends, ends.0)) ms (all_before m.0 ms are.1))

  fall : (to : ℕ) (ms : List Span) → AreBackwardEndingBy sought text to ms → AllPairs (λ m o. o.1 ≤ m.0) ms
  unfolding AreBackwardEndingBy
  fall to [] are = λ i j d below inside. absurd (omega arith)
  fall to (m ∷ ms) are = AllPairs-cons (λ a b. b.1 ≤ a.0) m ms (all_before m.0 ms are.1) (fall m.0 ms are.1)

  fall_backward : (from : ℕ) (ms : List Span) → AreBackward sought text from ms → AllPairs (λ m o. o.1 ≤ m.0) ms
  unfolding AreBackward
  fall_backward from [] are = λ i j d below inside. absurd (omega arith)
  fall_backward from (m ∷ ms) are = AllPairs-cons (λ a b. b.1 ≤ a.0) m ms (all_before m.0 ms are.1) (fall m.0 ms are.1)

  pub falling : (from : ℕ) → AllPairs (λ m o. o.1 ≤ m.0) (backward sought text from)
  falling from = fall_backward from (backward sought text from) (are_backward from)

  -- The first of them by itself.
  next_first : (from : ℕ) (ms : List Span) → AreForward sought text from ms → FindsNext sought text from (slice_get ms 0)
  unfolding AreForward
  next_first from [] are = are
  next_first from (m ∷ ms) are = are.0

  pub finds_next : (from : ℕ) → FindsNext sought text from (slice_get (forward sought text from) 0)
  finds_next from = next_first from (forward sought text from) (are_forward (length text) from (omega arith))

  last_first : (from : ℕ) (ms : List Span) → AreBackward sought text from ms → FindsLastBy sought text from (slice_get ms 0)
  unfolding AreBackward
  last_first from [] are = are
  last_first from (m ∷ ms) are = are.0

  pub finds_last : (from : ℕ) → FindsLastBy sought text from (slice_get (backward sought text from) 0)
  finds_last from = last_first from (backward sought text from) (are_backward from)

  -- Each of them is at least one byte long, and within the text.
  long_forward : (n from : ℕ) (ms : List Span) → AreForward sought text from ms → IfSome (slice_get ms n) (λ m. (m.0 < m.1) × (m.1 ≤ length text))
  unfolding AreForward
  long_forward n from [] are = tt
  long_forward zero from (m ∷ ms) are = long m.0 m.1 are.0.matches
  long_forward (suc n) from (m ∷ ms) are = long_forward n m.1 ms are.1

  long_ending_by : (n to : ℕ) (ms : List Span) → AreBackwardEndingBy sought text to ms → IfSome (slice_get ms n) (λ m. (m.0 < m.1) × (m.1 ≤ length text))
  unfolding AreBackwardEndingBy
  long_ending_by n to [] are = tt
  long_ending_by zero to (m ∷ ms) are = long m.0 m.1 are.0.matches
  long_ending_by (suc n) to (m ∷ ms) are = long_ending_by n m.0 ms are.1

  long_backward : (n from : ℕ) (ms : List Span) → AreBackward sought text from ms → IfSome (slice_get ms n) (λ m. (m.0 < m.1) × (m.1 ≤ length text))
  unfolding AreBackward
  long_backward n from [] are = tt
  long_backward zero from (m ∷ ms) are = long m.0 m.1 are.0.matches
  long_backward (suc n) from (m ∷ ms) are = long_ending_by n m.0 ms are.1

  pub nth_forward_long : (n from : ℕ) → IfSome (slice_get (forward sought text from) n) (λ m. (m.0 < m.1) × (m.1 ≤ length text))
  nth_forward_long n from = long_forward n from (forward sought text from) (are_forward (length text) from (omega arith))

  pub nth_backward_long : (n from : ℕ) → IfSome (slice_get (backward sought text from) n) (λ m. (m.0 < m.1) × (m.1 ≤ length text))
  nth_backward_long n from = long_backward n from (backward sought text from) (are_backward from)
