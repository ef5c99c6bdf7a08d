-- Choosing among the matches of all places: the first that is chosen, and then those that it leaves.
use Rattle.std.proofs.Common.{◌≡◌, ℕ, zero, suc, ◌+◌, ◌-◌, ◌<◌, ◌≤◌, Bool, true, false, List, [], ◌∷◌, ◌++◌, Option, Some, None, refl, sym, ap, ◌∙◌, arith, ⊎_elim}
use Rattle.std.specs.Prelude.{reverse}
use Rattle.std.specs.List.{filter_map, cons_option, range_with_len}
use Rattle.std.proofs.lemmas.Bool.{lt-leb, le-leb, cases_lt}
use Rattle.std.proofs.lemmas.List.{append_assoc, reverse-append}
use Rattle.std.proofs.lemmas.List.Elements.{filter_map-append}
use Rattle.std.proofs.lemmas.Option.{none-some}
use Rattle.teco_search.specs.Occurrence.{Span, chosen, starts_from, ends_by}

-- no span of a list passes a test
abbrev pub AllFail : (Span → Bool) → List Span → Type 0
AllFail passes [] = Unit {0}
AllFail passes (m ∷ ms) = (passes m ≡ false) × AllFail passes ms

AllFail-append : (passes : Span → Bool) (ms os : List Span) → AllFail passes ms → AllFail passes os → AllFail passes (ms ++ os)
AllFail-append passes [] os h k = k
AllFail-append passes (m ∷ ms) os h k = (h.0, AllFail-append passes ms os h.1 k)

AllFail-reverse : (passes : Span → Bool) (ms : List Span) → AllFail passes ms → AllFail passes (reverse ms)
AllFail-reverse passes [] h = tt
AllFail-reverse passes (m ∷ ms) h = rw (reverse-append (m ∷ []) ms) (AllFail-append passes (reverse ms) (m ∷ []) (AllFail-reverse passes ms h.1) (h.0, tt))

module _ (sets : Span → Span → Bool) where
  chosen_none : (passes : Span → Bool) (ms : List Span) → AllFail passes ms → chosen sets passes ms ≡ []
  unfolding chosen
  chosen_none passes [] h = refl
  chosen_none passes (m ∷ ms) h = rw h.0 (chosen_none passes ms h.1)

  chosen_skip : (passes : Span → Bool) (front ms : List Span) → AllFail passes front → chosen sets passes (front ++ ms) ≡ chosen sets passes ms
  unfolding chosen
  chosen_skip passes [] ms h = refl
  chosen_skip passes (m ∷ front) ms h = rw h.0 (chosen_skip passes front ms h.1)

  chosen_here : (passes : Span → Bool) (m : Span) (ms : List Span) → passes m ≡ true → chosen sets passes (m ∷ ms) ≡ m ∷ chosen sets (sets m) ms
  unfolding chosen
  chosen_here passes m ms h = rw h

  chosen_past : (passes : Span → Bool) (m : Span) (ms : List Span) → passes m ≡ false → chosen sets passes (m ∷ ms) ≡ chosen sets passes ms
  unfolding chosen
  chosen_past passes m ms h = rw h

  chosen_hit :
      (passes : Span → Bool) (front : List Span) (m : Span) (ms : List Span)
      → AllFail passes front → passes m ≡ true → AllFail (sets m) front → sets m m ≡ false
      → chosen sets passes (front ++ m ∷ ms) ≡ m ∷ chosen sets (sets m) (front ++ m ∷ ms)
  chosen_hit passes front m ms before here after itself =
      chosen_skip passes front (m ∷ ms) before ∙ chosen_here passes m ms here
      ∙ ap (λ os. m ∷ os) (sym (chosen_skip (sets m) front (m ∷ ms) after ∙ chosen_past (sets m) m ms itself))

range_split : (p a b : ℕ) → range_with_len p (a + suc b) ≡ range_with_len p a ++ (p + a) ∷ range_with_len (p + a + 1) b
range_split p zero b =
    let one : 0 + suc b ≡ suc b = omega arith in
    let here : p + 0 ≡ p = omega arith in
    rw (one, here)
range_split p (suc a) b =
    let one : suc a + suc b ≡ suc (a + suc b) = omega arith in
    let here : p + suc a ≡ p + 1 + a = omega arith in
    rw (one, here) (ap (λ ks. p ∷ ks) (range_split (p + 1) a b))

-- Each place has at most one match, which starts there and is not empty.
module _ (f : ℕ → Option Span) (placed : (k : ℕ) (m : Span) → f k ≡ Some m → (m.0 ≡ k) × (k < m.1)) where
  pub found : ℕ → List Span
  found n = filter_map f (range_with_len 0 n)

  fails_cons : (passes : Span → Bool) (o : Option Span) (ms : List Span) → ((m : Span) → o ≡ Some m → passes m ≡ false) → AllFail passes ms → AllFail passes (cons_option o ms)
  fails_cons passes None ms h later = later
  fails_cons passes (Some m) ms h later = (h m refl, later)

  fails_within : (passes : Span → Bool) (p n : ℕ) → ((k : ℕ) (m : Span) → p ≤ k → k < p + n → f k ≡ Some m → passes m ≡ false) → AllFail passes (filter_map f (range_with_len p n))
  fails_within passes p zero h = tt
  fails_within passes p (suc n) h =
      fails_cons passes (f p) (filter_map f (range_with_len (p + 1) n)) (λ m is. h p m (omega arith) (omega arith) is)
      (fails_within passes (p + 1) n (λ k m low high is. h k m (omega arith) (omega arith) is))

  found_split : (n k : ℕ) (m : Span) → k < n → f k ≡ Some m → filter_map f (range_with_len 0 n) ≡ filter_map f (range_with_len 0 k) ++ m ∷ filter_map f (range_with_len (k + 1) (n - k - 1))
  found_split n k m below is =
      let whole : n ≡ k + suc (n - k - 1) = omega arith in
      let zero_k : 0 + k ≡ k = omega arith in
      ap (λ j. filter_map f (range_with_len 0 j)) whole ∙ ap (filter_map f) (range_split 0 k (n - k - 1))
      ∙ filter_map-append f (range_with_len 0 k) ((0 + k) ∷ range_with_len (0 + k + 1) (n - k - 1)) ∙ rw (zero_k, is)

  module _ (n : ℕ) where
    -- Forward: none from a place on.
    pub forward_none : (from : ℕ) → ((k : ℕ) → from ≤ k → k < n → f k ≡ None) → chosen (λ m. starts_from m.1) (starts_from from) (filter_map f (range_with_len 0 n)) ≡ []
    forward_none from none =
        chosen_none (λ m. starts_from m.1) (starts_from from) (filter_map f (range_with_len 0 n)) (fails_within (starts_from from) 0 n
        (λ k m low high is. ⊎_elim (λ before. rw (placed k m is).0 (lt-leb from k before))
        (λ passed. absurd (none-some m (sym (none k passed (omega arith)) ∙ is))) (cases_lt k from)))

    -- Forward: the first from a place on.
    pub forward_hit :
        (from k : ℕ) (m : Span) → from ≤ k → k < n → f k ≡ Some m → ((j : ℕ) → from ≤ j → j < k → f j ≡ None)
        → chosen (λ o. starts_from o.1) (starts_from from) (filter_map f (range_with_len 0 n)) ≡ m ∷ chosen (λ o. starts_from o.1) (starts_from m.1) (filter_map f (range_with_len 0 n))
    forward_hit from k m low high is none =
        let here = placed k m is in
        let split = found_split n k m high is in
        rw split (chosen_hit (λ o. starts_from o.1) (starts_from from) (filter_map f (range_with_len 0 k)) m (filter_map f (range_with_len (k + 1) (n - k - 1)))
        (fails_within (starts_from from) 0 k (λ j o a b at. ⊎_elim (λ before. rw (placed j o at).0 (lt-leb from j before))
        (λ passed. absurd (none-some o (sym (none j passed (omega arith)) ∙ at))) (cases_lt j from)))
        (le-leb from m.0 (omega (arith, here.0)))
        (fails_within (starts_from m.1) 0 k (λ j o a b at. lt-leb m.1 o.0 (omega (arith, here.1, (placed j o at).0))))
        (lt-leb m.1 m.0 (omega (arith, here.0, here.1))))

    -- Backward: none that passes.
    pub backward_none : (passes : Span → Bool) → ((k : ℕ) (m : Span) → k < n → f k ≡ Some m → passes m ≡ false) → chosen (λ m. ends_by m.0) passes (reverse (filter_map f (range_with_len 0 n))) ≡ []
    backward_none passes none =
        chosen_none (λ m. ends_by m.0) passes (reverse (filter_map f (range_with_len 0 n))) (AllFail-reverse passes (filter_map f (range_with_len 0 n))
        (fails_within passes 0 n (λ k m low high is. none k m (omega arith) is)))

    -- Backward: the last that passes.
    pub backward_hit :
        (passes : Span → Bool) (k : ℕ) (m : Span) → k < n → f k ≡ Some m → passes m ≡ true → ((j : ℕ) (o : Span) → k < j → j < n → f j ≡ Some o → passes o ≡ false)
        → chosen (λ o. ends_by o.0) passes (reverse (filter_map f (range_with_len 0 n))) ≡ m ∷ chosen (λ o. ends_by o.0) (ends_by m.0) (reverse (filter_map f (range_with_len 0 n)))
    backward_hit passes k m high is here none =
        let placed_here = placed k m is in
        let front = filter_map f (range_with_len 0 k) in
        let back = filter_map f (range_with_len (k + 1) (n - k - 1)) in
        let turned : reverse (filter_map f (range_with_len 0 n)) ≡ reverse back ++ m ∷ reverse front =
        ap reverse (found_split n k m high is) ∙ reverse-append front (m ∷ back) ∙ ap (λ ms. ms ++ reverse front) (reverse-append (m ∷ []) back) ∙ append_assoc (reverse back) (m ∷ []) (reverse front) in
        rw turned (chosen_hit (λ o. ends_by o.0) passes (reverse back) m (reverse front)
        (AllFail-reverse passes back (fails_within passes (k + 1) (n - k - 1) (λ j o a b at. none j o (omega arith) (omega arith) at)))
        here
        (AllFail-reverse (ends_by m.0) back (fails_within (ends_by m.0) (k + 1) (n - k - 1) (λ j o a b at. lt-leb o.1 m.0 (omega (arith, placed_here.0, (placed j o at).1)))))
        (lt-leb m.1 m.0 (omega (arith, placed_here.0, placed_here.1))))
