use Rattle.std.proofs.Common.{◌≡◌, ℕ, ◌+◌, ◌-◌, ◌<◌, ◌≤◌, ◌++◌, Some, None, List, length, take, Option, sym, ap, subst, ◌∙◌, arith, ⊎_elim}
use Rattle.std.specs.Prelude.{min}
use Rattle.std.proofs.lemmas.List.{take_all}
use Rattle.std.proofs.lemmas.Bool.{cases_lt}
use Rattle.memchr.specs.Find.{OccursAt, FindsLastNeedle, FindsLastNeedleBy, Nowhere}
use Rattle.teco_search.proofs.Halves.{front_by_nowhere, front_by_hit, back_by_nowhere, back_by_hit, last_gap}
use Rattle.teco_search.proofs.literal.last_by.Goals as goal

-- what ends by a place of the first half
by_front : (before after bytes : List ℕ) (to : ℕ) → to ≤ length before → (r : Option ℕ) → FindsLastNeedle (take to before) bytes r → FindsLastNeedleBy (before ++ after) bytes to r
by_front before after bytes to within None h = λ k low high occurs. front_by_nowhere bytes before after to within h k (omega arith) occurs
by_front before after bytes to within (Some s) h =
    let hit = front_by_hit bytes before after to s within h in
    (record { low = omega arith; high = omega (arith, hit.1); after = λ k above high occurs. hit.2 k (omega arith) (omega arith) occurs }, hit.0)

-- what ends by a place of the second half, where what ends after the first half is none
beyond_front :
    (before after bytes : List ℕ) (to : ℕ) → 0 < length bytes → length before < to
    → ((k : ℕ) → length before < k + length bytes → k + length bytes ≤ to → OccursAt (before ++ after) bytes k → ⊥)
    → (r : Option ℕ) → FindsLastNeedle before bytes r → FindsLastNeedleBy (before ++ after) bytes to r
beyond_front before after bytes to some beyond late None h = λ k low high occurs. ⊎_elim
    (λ early. front_by_nowhere bytes before after (length before) (omega arith) (subst (λ xs. FindsLastNeedle xs bytes None) (sym (take_all (length before) before (omega arith))) h) k (omega arith) occurs)
    (λ passed. late k (omega arith) (omega arith) occurs) (cases_lt (k + length bytes) (length before + 1))
beyond_front before after bytes to some beyond late (Some s) h =
    let hit = front_by_hit bytes before after (length before) s (omega arith) (subst (λ xs. FindsLastNeedle xs bytes (Some s)) (sym (take_all (length before) before (omega arith))) h) in (
      record {
        low = omega arith;
        high = omega (arith, hit.1);
        after = λ k above high occurs. ⊎_elim (λ early. hit.2 k (omega arith) (omega arith) occurs) (λ passed. late k (omega arith) (omega arith) occurs) (cases_lt (k + length bytes) (length before + 1));
      },
      hit.0,
    )

pub returns-then-to-cut : goal.returns-then-to-cut
returns-then-to-cut c = rw (← c.halves.ensures) (by_front c.halves.result.0.now c.halves.result.1.now c.args.finder.now c.args.to (omega arith) c.rfind.result c.rfind.ensures)

pub returns-in-Some : goal.returns-in-Some
returns-in-Some c =
    let before = c.halves.result.0.now in
    let after = c.halves.result.1.now in
    let hit = back_by_hit c.args.finder.now before after (c.args.to - length before) c.in-Some.start c.in-Some.ensures in
    rw (← c.halves.ensures) (
      record { low = omega arith; high = omega (arith, hit.1); after = λ k above high occurs. hit.2 k (omega arith) (omega arith) occurs },
      hit.0,
    )

-- none that ends by a place of the second half and begins at or after s
none_after :
    (before after bytes text other : List ℕ) (to low high across s : ℕ) → 0 < length bytes → before ++ after ≡ text → other ≡ bytes
    → low ≡ length before - (length other - 1) → across ≡ to - (length other - 1) → high ≡ min (length before) across → length before ≤ to → low ≤ s
    → FindsLastNeedle (take (to - length before) after) bytes None → Nowhere (OccursAt text other) s high
    → (k : ℕ) → s ≤ k → k + length bytes ≤ to → OccursAt (before ++ after) bytes k → ⊥
none_after before after bytes text other to low high across s some whole same low_is across_is high_is within above back gap =
    let high_here : high ≡ min (length before) (to - (length bytes - 1)) = high_is ∙ ap (min (length before)) (across_is ∙ ap (λ bs. to - (length bs - 1)) same) in
    last_gap bytes before after some to low high s (low_is ∙ ap (λ bs. length before - (length bs - 1)) same) high_here above
    (λ k late by occurs. back_by_nowhere bytes before after (to - length before) back k late (omega arith) occurs)
    (subst (λ bs. Nowhere (OccursAt (before ++ after) bs) s high) same (subst (λ t. Nowhere (OccursAt t other) s high) (sym whole) gap))

pub returns-in-Some-last_across : goal.returns-in-Some-last_across
returns-in-Some-last_across c =
    let before = c.halves.result.0.now in
    let after = c.halves.result.1.now in
    let bytes = c.args.finder.now in
    let s = c.in-Some-last_across.start in
    let found = c.in-Some-last_across.ensures in
    let high : s < c.min-end.result = found.0.high in
    let low : c.saturating_sub-across.result ≤ s = found.0.low in
    let some : 0 < length bytes = c.requires.some in
    let at_end : c.min-end.result ≡ min (length before) (c.args.to - (length bytes - 1)) =
    c.min-end.ensures ∙ ap (min (length before)) (c.saturating_sub.ensures ∙ ap (λ bs. c.args.to - (length bs - 1)) c.needle-bytes.ensures) in
    let none = none_after before after bytes c.args.text.now c.needle-bytes.result.now c.args.to c.saturating_sub-across.result c.min-end.result c.saturating_sub.result (s + 1) some c.halves.ensures c.needle-bytes.ensures
    c.saturating_sub-across.ensures c.saturating_sub.ensures c.min-end.ensures (omega arith) (omega arith) c.in_default.ensures found.0.after in
    let here : OccursAt (before ++ after) bytes s = subst (λ t. OccursAt t bytes s) (sym c.halves.ensures) (subst (λ bs. OccursAt c.args.text.now bs s) c.needle-bytes.ensures found.1) in
    rw (← c.halves.ensures) (
      record { low = omega arith; high = omega arith; after = λ k above below occurs. none k above (omega arith) occurs },
      here,
    )

pub returns : goal.returns
returns c =
    let before = c.halves.result.0.now in
    let after = c.halves.result.1.now in
    let bytes = c.args.finder.now in
    let some : 0 < length bytes = c.requires.some in
    let beyond : length before < c.args.to = omega arith in
    let low : c.saturating_sub-across.result ≡ length before - (length bytes - 1) = c.saturating_sub-across.ensures ∙ ap (λ bs. length before - (length bs - 1)) c.needle-bytes.ensures in
    let none = none_after before after bytes c.args.text.now c.needle-bytes.result.now c.args.to c.saturating_sub-across.result c.min-end.result c.saturating_sub.result c.saturating_sub-across.result some c.halves.ensures c.needle-bytes.ensures
    c.saturating_sub-across.ensures c.saturating_sub.ensures c.min-end.ensures (omega arith) (omega arith) c.in_default.ensures c.in_default-last_across.ensures in
    rw (← c.halves.ensures) (beyond_front before after bytes c.args.to some beyond (λ k above by occurs. none k (omega arith) by occurs) c.rfind-3.result c.rfind-3.ensures)
