-- Where bytes that pass a test are in a text of two halves, from where they are in each.
use Rattle.std.proofs.Common.{◌≡◌, ℕ, ◌+◌, ◌-◌, ◌<◌, ◌≤◌, Bool, List, ◌++◌, length, get_or, take, drop, Option, Some, None, refl, sym, ap, subst, ◌∙◌, arith, ⊎_elim, length-append, length-drop}
use Rattle.std.proofs.lemmas.Bool.{cases_lt}
use Rattle.std.proofs.lemmas.List.{take_rest, get_or_append_left, get_or-append_right, get_or-drop, get_or-take, length-take-le}
use Rattle.memchr.specs.Find.{Nowhere, NoneBefore, Passes, IsFirstByte, IsLast, IsLastByte}
use Rattle.memchr.proofs.lemmas.FindLemmas.{Nowhere-then}

-- A part of a text, from a place on.
record IsPart (text part : List ℕ) (at : ℕ) : Type 0 where
  reads : (j : ℕ) → j < length part → get_or text (at + j) 0 ≡ get_or part j 0

module _ (test : ℕ → Bool) (text part : List ℕ) (at : ℕ) (is : IsPart text part at) where
  here : (j : ℕ) → j < length part → Passes test text (at + j) → Passes test part j
  here j inside passes = sym (ap test (is.reads j inside)) ∙ passes

  there : (j : ℕ) → j < length part → Passes test part j → Passes test text (at + j)
  there j inside passes = ap test (is.reads j inside) ∙ passes

  part_none : Nowhere (Passes test part) 0 (length part) → Nowhere (Passes test text) at (at + length part)
  part_none none k low high passes =
      let along : at + (k - at) ≡ k = omega arith in
      none (k - at) (omega arith) (omega arith) (here (k - at) (omega arith) (subst (Passes test text) (sym along) passes))

  part_some : (k : ℕ) → NoneBefore (Passes test part) 0 (length part) k × Passes test part k → (k < length part) × Nowhere (Passes test text) at (at + k) × Passes test text (at + k)
  part_some k found = (
    found.0.high,
    (λ j low high passes.
        let along : at + (j - at) ≡ j = omega arith in
        let inside : k < length part = found.0.high in
        found.0.before (j - at) (omega arith) (omega arith) (here (j - at) (omega arith) (subst (Passes test text) (sym along) passes))),
    there k found.0.high found.1,
  )

module _ (test : ℕ → Bool) (before after : List ℕ) where
  front_part : (a : ℕ) → a ≤ length before → IsPart (before ++ after) (take (length before - a) (drop a before)) a
  front_part a within = subst (λ ys. IsPart (before ++ after) ys a) (sym (take_rest before a)) (record {
    reads = λ j inside.
        let long = length-drop a before in
        get_or_append_left before after 0 (a + j) (omega arith) ∙ sym (get_or-drop a before j 0);
  })

  back_part : (a : ℕ) → IsPart (before ++ after) (take (length after - a) (drop a after)) (length before + a)
  back_part a = subst (λ ys. IsPart (before ++ after) ys (length before + a)) (sym (take_rest after a)) (record {
    reads = λ j inside.
        let along : length before + a + j - length before ≡ a + j = omega arith in
        get_or-append_right before after (length before) (length before + a + j) 0 refl (omega arith) ∙ ap (λ k. get_or after k 0) along ∙ sym (get_or-drop a after j 0);
  })

  -- the length of the rest of a slice
  rest_len : (xs : List ℕ) (a : ℕ) → length (take (length xs - a) (drop a xs)) ≡ length xs - a
  rest_len xs a = ap length (take_rest xs a) ∙ length-drop a xs

  pub back_none :
      (from a : ℕ) → from ≡ length before + a → a ≤ length after → IsFirstByte test (take (length after - a) (drop a after)) None
      → Nowhere (Passes test (before ++ after)) from (length (before ++ after))
  back_none from a is within none =
      let whole : length before + a + length (take (length after - a) (drop a after)) ≡ length (before ++ after) = omega (arith, rest_len after a, length-append before after) in
      subst (λ k. Nowhere (Passes test (before ++ after)) k (length (before ++ after))) (sym is)
      (subst (λ k. Nowhere (Passes test (before ++ after)) (length before + a) k) whole (part_none test (before ++ after) (take (length after - a) (drop a after)) (length before + a) (back_part a) none))

  pub back_some :
      (from a k : ℕ) → from ≡ length before + a → a ≤ length after → IsFirstByte test (take (length after - a) (drop a after)) (Some k)
      → NoneBefore (Passes test (before ++ after)) from (length (before ++ after)) (from + k) × Passes test (before ++ after) (from + k)
  back_some from a k is within found =
      let here = part_some test (before ++ after) (take (length after - a) (drop a after)) (length before + a) (back_part a) k found in
      let place : length before + a + k ≡ from + k = omega arith in
      let high : from + k < length (before ++ after) = omega (arith, here.0, rest_len after a, length-append before after) in (
        record {
          low = omega arith;
          high = high;
          before = subst (λ p. Nowhere (Passes test (before ++ after)) p (from + k)) (sym is) (subst (λ q. Nowhere (Passes test (before ++ after)) (length before + a) q) place here.1);
        },
        subst (Passes test (before ++ after)) place here.2,
      )

  front_none : (from : ℕ) → from ≤ length before → IsFirstByte test (take (length before - from) (drop from before)) None → Nowhere (Passes test (before ++ after)) from (length before)
  front_none from within none =
      let whole : from + length (take (length before - from) (drop from before)) ≡ length before = omega (arith, rest_len before from) in
      subst (Nowhere (Passes test (before ++ after)) from) whole (part_none test (before ++ after) (take (length before - from) (drop from before)) from (front_part from within) none)

  pub front_some :
      (from k : ℕ) → from ≤ length before → IsFirstByte test (take (length before - from) (drop from before)) (Some k)
      → NoneBefore (Passes test (before ++ after)) from (length (before ++ after)) (from + k) × Passes test (before ++ after) (from + k)
  front_some from k within found =
      let here = part_some test (before ++ after) (take (length before - from) (drop from before)) from (front_part from within) k found in
      let high : from + k < length (before ++ after) = omega (arith, here.0, rest_len before from, length-append before after) in
      (record { low = omega arith; high = high; before = here.1 }, here.2)

  -- Nowhere in the first half from a place on, and then nowhere in the second or first there.
  pub both_none :
      (from : ℕ) → from ≤ length before → IsFirstByte test (take (length before - from) (drop from before)) None → IsFirstByte test after None
      → Nowhere (Passes test (before ++ after)) from (length (before ++ after))
  both_none from within none later = Nowhere-then (front_none from within none) (back_none (length before) 0 (omega arith) (omega arith) (from_start None later))
    where
      from_start : (r : Option ℕ) → IsFirstByte test after r → IsFirstByte test (take (length after - 0) (drop 0 after)) r
      from_start r h = subst (λ ys. IsFirstByte test ys r) (sym (take_rest after 0)) h

  pub both_some :
      (from k : ℕ) → from ≤ length before → IsFirstByte test (take (length before - from) (drop from before)) None → IsFirstByte test after (Some k)
      → NoneBefore (Passes test (before ++ after)) from (length (before ++ after)) (length before + k) × Passes test (before ++ after) (length before + k)
  both_some from k within none later =
      let there = back_some (length before) 0 k (omega arith) (omega arith) (from_start (Some k) later) in
      (record { low = omega arith; high = there.0.high; before = Nowhere-then (front_none from within none) there.0.before }, there.1)
    where
      from_start : (r : Option ℕ) → IsFirstByte test after r → IsFirstByte test (take (length after - 0) (drop 0 after)) r
      from_start r h = subst (λ ys. IsFirstByte test ys r) (sym (take_rest after 0)) h

-- The last byte before a place.
module _ (test : ℕ → Bool) (before after : List ℕ) (to : ℕ) where
  front_is : (k : ℕ) → k < length before → get_or (before ++ after) k 0 ≡ get_or before k 0
  front_is k inside = get_or_append_left before after 0 k inside

  back_is : (k : ℕ) → length before ≤ k → get_or (before ++ after) k 0 ≡ get_or after (k - length before) 0
  back_is k past = get_or-append_right before after (length before) k 0 refl past

  pub last_in_front : (r : Option ℕ) → to ≤ length before → IsLastByte test (take to before) r → IsLast (Passes test (before ++ after)) 0 to r
  last_in_front None within none =
      let long = length-take-le to before within in
      λ k low high passes. none k low (omega arith) (ap test (get_or-take to before k 0 high ∙ sym (front_is k (omega arith))) ∙ passes)
  last_in_front (Some s) within found =
      let long = length-take-le to before within in
      let inside : s < to = omega (arith, found.0.high) in (
        record {
          low = omega arith;
          high = inside;
          after = λ k low high passes. found.0.after k low (omega arith) (ap test (get_or-take to before k 0 high ∙ sym (front_is k (omega arith))) ∙ passes);
        },
        ap test (front_is s (omega arith) ∙ sym (get_or-take to before s 0 inside)) ∙ found.1,
      )

  module _ (past : length before < to) (within : to ≤ length (before ++ after)) where
    late : (k : ℕ) → length before ≤ k → k < to → Passes test (before ++ after) k → Passes test (take (to - length before) after) (k - length before)
    late k low high passes = ap test (get_or-take (to - length before) after (k - length before) 0 (omega arith) ∙ sym (back_is k low)) ∙ passes

    long : length (take (to - length before) after) ≡ to - length before
    long = let whole = length-append before after in length-take-le (to - length before) after (omega arith)

    pub last_in_back : (p : ℕ) → IsLastByte test (take (to - length before) after) (Some p) → IsLast (Passes test (before ++ after)) 0 to (Some (length before + p))
    last_in_back p found =
        let inside : p < to - length before = omega (arith, found.0.high, long) in
        let along : length before + p - length before ≡ p = omega arith in (
          record {
            low = omega arith;
            high = omega arith;
            after = λ k low high passes. found.0.after (k - length before) (omega arith) (omega (arith, long)) (late k (omega arith) high passes);
          },
          ap test (back_is (length before + p) (omega arith) ∙ ap (λ i. get_or after i 0) along ∙ sym (get_or-take (to - length before) after p 0 inside)) ∙ found.1,
        )

    none_late : IsLastByte test (take (to - length before) after) None → (k : ℕ) → length before ≤ k → k < to → Passes test (before ++ after) k → ⊥
    none_late none k low high passes = none (k - length before) (omega arith) (omega (arith, long)) (late k low high passes)

    pub last_before_back : (r : Option ℕ) → IsLastByte test (take (to - length before) after) None → IsLastByte test before r → IsLast (Passes test (before ++ after)) 0 to r
    last_before_back None none early = λ k low high passes. ⊎_elim
        (λ front. early k low front (ap test (sym (front_is k front)) ∙ passes))
        (λ back. none_late none k back high passes) (cases_lt k (length before))
    last_before_back (Some s) none early = (
      record {
        low = omega arith;
        high = omega (arith, early.0.high);
        after = λ k low high passes. ⊎_elim
            (λ front. early.0.after k low front (ap test (sym (front_is k front)) ∙ passes))
            (λ back. none_late none k back high passes) (cases_lt k (length before));
      },
      ap test (front_is s early.0.high) ∙ early.1,
    )
