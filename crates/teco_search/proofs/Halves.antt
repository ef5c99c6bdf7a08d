-- Where a text of two halves has some bytes, from where each half has them.
use Rattle.std.proofs.Common.{◌≡◌, ℕ, ◌+◌, ◌-◌, ◌<◌, ◌≤◌, List, ◌++◌, length, get_or, take, drop, Option, Some, refl, sym, ap, subst, ◌∙◌, arith, ⊎_elim, length-append, length-drop, length-take}
use Rattle.std.specs.Prelude.{min, max}
use Rattle.std.proofs.lemmas.Bool.{cases_lt}
use Rattle.std.proofs.lemmas.List.{take_rest, get_or_append_left, get_or-append_right, get_or-take, get_or-drop}
use Rattle.memchr.specs.Find.{FindsNeedle, OccursAt, Nowhere, IsFirst, IsLast}

module _ (bytes : List ℕ) where
  dropped_to : (xs : List ℕ) (a k : ℕ) → a ≤ length xs → OccursAt (drop a xs) bytes k → OccursAt xs bytes (a + k)
  dropped_to xs a k within o = record {
    fits = omega (arith, o.fits, length-drop a xs);
    reads = λ j below. let along : a + k + j ≡ a + (k + j) = omega arith in ap (λ i. get_or xs i 0) along ∙ sym (get_or-drop a xs (k + j) 0) ∙ o.reads j below;
  }

  dropped_from : (xs : List ℕ) (a k : ℕ) → a ≤ k → OccursAt xs bytes k → OccursAt (drop a xs) bytes (k - a)
  dropped_from xs a k low o = record {
    fits = omega (arith, o.fits, length-drop a xs);
    reads = λ j below. let along : a + (k - a + j) ≡ k + j = omega arith in get_or-drop a xs (k - a + j) 0 ∙ ap (λ i. get_or xs i 0) along ∙ o.reads j below;
  }

  taken_fits : (xs : List ℕ) (b k : ℕ) → OccursAt (take b xs) bytes k → (k + length bytes ≤ b) × (k + length bytes ≤ length xs)
  taken_fits xs b k o = let fits = o.fits in let long = length-take b xs in (omega arith, omega arith)

  taken_to : (xs : List ℕ) (b k : ℕ) → OccursAt (take b xs) bytes k → OccursAt xs bytes k
  taken_to xs b k o =
      let fits = taken_fits xs b k o in
      record { fits = fits.1; reads = λ j below. sym (get_or-take b xs (k + j) 0 (omega (arith, fits.0))) ∙ o.reads j below }

  taken_from : (xs : List ℕ) (b k : ℕ) → k + length bytes ≤ b → OccursAt xs bytes k → OccursAt (take b xs) bytes k
  taken_from xs b k by o =
      let fits = o.fits in let long = length-take b xs in
      record { fits = omega arith; reads = λ j below. get_or-take b xs (k + j) 0 (omega arith) ∙ o.reads j below }

  module _ (before after : List ℕ) where
    front_to : (k : ℕ) → OccursAt before bytes k → OccursAt (before ++ after) bytes k
    front_to k o =
        let fits = o.fits in let long = length-append before after in
        record { fits = omega arith; reads = λ j below. get_or_append_left before after 0 (k + j) (omega arith) ∙ o.reads j below }

    front_from : (k : ℕ) → k + length bytes ≤ length before → OccursAt (before ++ after) bytes k → OccursAt before bytes k
    front_from k by o = record { fits = by; reads = λ j below. sym (get_or_append_left before after 0 (k + j) (omega arith)) ∙ o.reads j below }

    back_to : (k : ℕ) → OccursAt after bytes k → OccursAt (before ++ after) bytes (length before + k)
    back_to k o =
        let fits = o.fits in let long = length-append before after in
        record {
          fits = omega arith;
          reads = λ j below.
              let along : length before + k + j - length before ≡ k + j = omega arith in
              get_or-append_right before after (length before) (length before + k + j) 0 refl (omega arith) ∙ ap (λ i. get_or after i 0) along ∙ o.reads j below;
        }

    back_from : (k : ℕ) → length before ≤ k → OccursAt (before ++ after) bytes k → OccursAt after bytes (k - length before)
    back_from k low o =
        let fits = o.fits in let long = length-append before after in
        record {
          fits = omega arith;
          reads = λ j below.
              let along : k + j - length before ≡ k - length before + j = omega arith in
              ap (λ i. get_or after i 0) (sym along) ∙ sym (get_or-append_right before after (length before) (k + j) 0 refl (omega arith)) ∙ o.reads j below;
        }

    -- A search of the first half from a place on.
    pub front_nowhere : (from : ℕ) → from ≤ length before → Nowhere (OccursAt (drop from before) bytes) 0 (length (drop from before) + 1) → (k : ℕ) → from ≤ k → k + length bytes ≤ length before → OccursAt (before ++ after) bytes k → ⊥
    front_nowhere from within none k low by o =
        let here = dropped_from before from k low (front_from k by o) in
        let fits = here.fits in
        none (k - from) (omega arith) (omega arith) here

    pub front_hit :
        (from s : ℕ) → from ≤ length before → IsFirst (OccursAt (drop from before) bytes) 0 (length (drop from before) + 1) (Some s)
        → OccursAt (before ++ after) bytes (from + s) × ((k : ℕ) → from ≤ k → k < from + s → OccursAt (before ++ after) bytes k → ⊥)
    front_hit from s within h =
        let there = dropped_to before from s within h.1 in
        let fits = there.fits in
        (front_to (from + s) there, λ k low below o. h.0.before (k - from) (omega arith) (omega arith) (dropped_from before from k low (front_from k (omega arith) o)))

    -- A search of the second half from a place on.
    pub back_nowhere : (a : ℕ) → Nowhere (OccursAt (drop a after) bytes) 0 (length (drop a after) + 1) → (k : ℕ) → length before + a ≤ k → OccursAt (before ++ after) bytes k → ⊥
    back_nowhere a none k low o =
        let here = dropped_from after a (k - length before) (omega arith) (back_from k (omega arith) o) in
        let fits = here.fits in
        none (k - length before - a) (omega arith) (omega arith) here

    pub back_hit :
        (a s : ℕ) → a ≤ length after → IsFirst (OccursAt (drop a after) bytes) 0 (length (drop a after) + 1) (Some s)
        → OccursAt (before ++ after) bytes (length before + a + s) × ((k : ℕ) → length before + a ≤ k → k < length before + a + s → OccursAt (before ++ after) bytes k → ⊥)
    back_hit a s within h =
        let along : length before + (a + s) ≡ length before + a + s = omega arith in (
          subst (OccursAt (before ++ after) bytes) along (back_to (a + s) (dropped_to after a s within h.1)),
          λ k low below o. h.0.before (k - length before - a) (omega arith) (omega arith) (dropped_from after a (k - length before) (omega arith) (back_from k (omega arith) o)),
        )

    -- A search of the first half for what ends by a place.
    pub front_by_nowhere : (b : ℕ) → b ≤ length before → Nowhere (OccursAt (take b before) bytes) 0 (length (take b before) + 1) → (k : ℕ) → k + length bytes ≤ b → OccursAt (before ++ after) bytes k → ⊥
    front_by_nowhere b within none k by o =
        let here = taken_from before b k by (front_from k (omega arith) o) in
        let fits = here.fits in
        none k (omega arith) (omega arith) here

    pub front_by_hit :
        (b s : ℕ) → b ≤ length before → IsLast (OccursAt (take b before) bytes) 0 (length (take b before) + 1) (Some s)
        → OccursAt (before ++ after) bytes s × (s + length bytes ≤ b) × ((k : ℕ) → s < k → k + length bytes ≤ b → OccursAt (before ++ after) bytes k → ⊥)
    front_by_hit b s within h = (
      front_to s (taken_to before b s h.1),
      (taken_fits before b s h.1).0,
      λ k above by o.
          let here = taken_from before b k by (front_from k (omega arith) o) in
          let fits = here.fits in
          h.0.after k (omega arith) (omega arith) here,
    )

    -- A search of the second half for what ends by a place.
    pub back_by_nowhere : (b : ℕ) → Nowhere (OccursAt (take b after) bytes) 0 (length (take b after) + 1) → (k : ℕ) → length before ≤ k → k + length bytes ≤ length before + b → OccursAt (before ++ after) bytes k → ⊥
    back_by_nowhere b none k low by o =
        let here = taken_from after b (k - length before) (omega arith) (back_from k low o) in
        let fits = here.fits in
        none (k - length before) (omega arith) (omega arith) here

    pub back_by_hit :
        (b s : ℕ) → IsLast (OccursAt (take b after) bytes) 0 (length (take b after) + 1) (Some s)
        → OccursAt (before ++ after) bytes (length before + s) × (s + length bytes ≤ b) × ((k : ℕ) → length before + s < k → k + length bytes ≤ length before + b → OccursAt (before ++ after) bytes k → ⊥)
    back_by_hit b s h = (
      back_to s (taken_to after b s h.1),
      (taken_fits after b s h.1).0,
      λ k above by o.
          let here = taken_from after b (k - length before) (omega arith) (back_from k (omega arith) o) in
          let fits = here.fits in
          h.0.after (k - length before) (omega arith) (omega arith) here,
    )

  -- what a search of the rest of a slice answers, as one of the rest of a list
  pub rest_first : (xs : List ℕ) (a : ℕ) (r : Option ℕ) → FindsNeedle (take (length xs - a) (drop a xs)) bytes 0 r → FindsNeedle (drop a xs) bytes 0 r
  rest_first xs a r h = subst (λ ys. FindsNeedle ys bytes 0 r) (take_rest xs a) h

  module _ (before after : List ℕ) (some : 0 < length bytes) where
    -- Up to a place of the first half: what ends in it, and what begins too late to end in it.
    pub first_gap :
        (from low end : ℕ) → low ≡ max from (length before - (length bytes - 1))
        → ((k : ℕ) → from ≤ k → k + length bytes ≤ length before → OccursAt (before ++ after) bytes k → ⊥)
        → ((k : ℕ) → low ≤ k → k < end → OccursAt (before ++ after) bytes k → ⊥)
        → (k : ℕ) → from ≤ k → k < end → OccursAt (before ++ after) bytes k → ⊥
    first_gap from low end is inside across k above below occurs =
        ⊎_elim (λ ends. inside k above (omega arith) occurs) (λ late. across k (omega arith) below occurs) (cases_lt (k + length bytes) (length before + 1))

    -- The same from the back.
    pub last_gap :
        (to low high s : ℕ) → low ≡ length before - (length bytes - 1) → high ≡ min (length before) (to - (length bytes - 1)) → low ≤ s
        → ((k : ℕ) → length before ≤ k → k + length bytes ≤ to → OccursAt (before ++ after) bytes k → ⊥)
        → ((k : ℕ) → s ≤ k → k < high → OccursAt (before ++ after) bytes k → ⊥)
        → (k : ℕ) → s ≤ k → k + length bytes ≤ to → OccursAt (before ++ after) bytes k → ⊥
    last_gap to low high s low_is high_is above_low inside across k above by occurs =
        ⊎_elim (λ early. across k above (omega arith) occurs) (λ late. inside k late by occurs) (cases_lt k (length before))
