use Rattle.std.proofs.Common.{◌≡◌, ℕ, ◌+◌, ◌-◌, ◌<◌, ◌≤◌, ◌++◌, Some, None, List, length, take, drop, sym, ap, subst, ◌∙◌, arith, ⊎_elim, length-append}
use Rattle.std.specs.Prelude.{max}
use Rattle.std.proofs.lemmas.Bool.{cases_lt}
use Rattle.memchr.specs.Find.{OccursAt, FindsNeedle, IsFirst, Nowhere}
use Rattle.teco_search.proofs.Halves.{rest_first, front_nowhere, front_hit, first_gap, back_nowhere, back_hit}
use Rattle.teco_search.proofs.literal.first_from.Goals as goal

pub returns-in_err-start-clause-value : goal.returns-in_err-start-clause-value
returns-in_err-start-clause-value c =
    let before = c.halves.result.0.now in
    let after = c.halves.result.1.now in
    let none = rest_first c.args.finder.now after (c.args.from - length before) None c.in_err-start.ensures in
    rw (c.from_residual.ensures, ← c.halves.ensures) (λ k low high occurs. back_nowhere c.args.finder.now before after (c.args.from - length before) none k (omega arith) occurs)

pub returns-then-from-cut-clause-value : goal.returns-then-from-cut-clause-value
returns-then-from-cut-clause-value c =
    let before = c.halves.result.0.now in
    let after = c.halves.result.1.now in
    let long = length-append before after in
    let whole = ap length c.halves.ensures in
    let hit = back_hit c.args.finder.now before after (c.args.from - length before) c.in_ok-start.start (omega arith)
    (rest_first c.args.finder.now after (c.args.from - length before) (Some c.in_ok-start.start) c.in_ok-start.ensures) in
    let along : length before + (c.args.from - length before) + c.in_ok-start.start ≡ c.args.from + c.in_ok-start.start = omega arith in
    let here : OccursAt (before ++ after) c.args.finder.now (c.args.from + c.in_ok-start.start) = subst (OccursAt (before ++ after) c.args.finder.now) along hit.0 in
    rw (← c.halves.ensures) (
      record { low = omega arith; high = omega (arith, here.fits); before = λ k low below occurs. hit.1 k (omega arith) (omega arith) occurs },
      here,
    )

pub returns-in-Some-clause-value : goal.returns-in-Some-clause-value
returns-in-Some-clause-value c =
    let before = c.halves.result.0.now in
    let after = c.halves.result.1.now in
    let inside : c.args.from ≤ length before = omega arith in
    let hit = front_hit c.args.finder.now before after c.args.from c.in-Some.start inside
    (rest_first c.args.finder.now before c.args.from (Some c.in-Some.start) c.in-Some.ensures) in
    rw (← c.halves.ensures) (
      record { low = omega arith; high = omega (arith, hit.0.fits); before = hit.1 },
      hit.0,
    )

-- Where the first half holds none and none lies across.
abbrev inside : (before : List ℕ) (bytes : List ℕ) (after : List ℕ) (from : ℕ) → Type 0
inside before bytes after from = (k : ℕ) → from ≤ k → k + length bytes ≤ length before → OccursAt (before ++ after) bytes k → ⊥

pub returns-in-Some-first_across-clause-value : goal.returns-in-Some-first_across-clause-value
returns-in-Some-first_across-clause-value c =
    let before = c.halves.result.0.now in
    let after = c.halves.result.1.now in
    let bytes = c.args.finder.now in
    let within : c.args.from ≤ length before = omega arith in
    let none : inside before bytes after c.args.from = front_nowhere bytes before after c.args.from within (rest_first bytes before c.args.from None c.in_default.ensures) in
    let low : c.max.result ≡ max c.args.from (length before - (length bytes - 1)) =
    c.max.ensures ∙ ap (max c.args.from) (c.saturating_sub-across.ensures ∙ ap (λ bs. length before - (length bs - 1)) c.needle-bytes.ensures) in
    let hit : IsFirst (OccursAt (before ++ after) bytes) c.max.result (length before) (Some c.in-Some-first_across.start) =
    subst (λ t. IsFirst (OccursAt t bytes) c.max.result (length before) (Some c.in-Some-first_across.start)) (sym c.halves.ensures)
    (subst (λ bs. IsFirst (OccursAt c.args.text.now bs) c.max.result (length before) (Some c.in-Some-first_across.start)) c.needle-bytes.ensures c.in-Some-first_across.ensures) in
    rw (← c.halves.ensures) (
      record {
        low = omega (arith, hit.0.low);
        high = omega (arith, hit.1.fits);
        before = first_gap bytes before after c.requires.some c.args.from c.max.result c.in-Some-first_across.start low none hit.0.before;
      },
      hit.1,
    )

-- none up to the second half
none_before :
    (before after bytes text other : List ℕ) (from low across : ℕ) → 0 < length bytes → before ++ after ≡ text → other ≡ bytes → from ≤ length before
    → across ≡ length before - (length other - 1) → low ≡ max from across
    → FindsNeedle (take (length before - from) (drop from before)) bytes 0 None → Nowhere (OccursAt text other) low (length before) → Nowhere (OccursAt (before ++ after) bytes) from (length before)
none_before before after bytes text other from low across some whole same within across_is low_is front gap =
    let none : inside before bytes after from = front_nowhere bytes before after from within (rest_first bytes before from None front) in
    let low_here : low ≡ max from (length before - (length bytes - 1)) = low_is ∙ ap (max from) (across_is ∙ ap (λ bs. length before - (length bs - 1)) same) in
    first_gap bytes before after some from low (length before) low_here none
    (subst (λ bs. Nowhere (OccursAt (before ++ after) bs) low (length before)) same (subst (λ t. Nowhere (OccursAt t other) low (length before)) (sym whole) gap))

pub returns-in_err-start-2-clause-value : goal.returns-in_err-start-2-clause-value
returns-in_err-start-2-clause-value c =
    let before = c.halves.result.0.now in
    let after = c.halves.result.1.now in
    let bytes = c.args.finder.now in
    let none = none_before before after bytes c.args.text.now c.needle-bytes.result.now c.args.from c.max.result c.saturating_sub-across.result c.requires.some c.halves.ensures c.needle-bytes.ensures
    (omega arith) c.saturating_sub-across.ensures c.max.ensures c.in_default.ensures c.in_default-first_across.ensures in
    rw (c.from_residual-in_err-start-2.ensures, ← c.halves.ensures) (λ k low high occurs. ⊎_elim
    (λ early. none k low early occurs)
    (λ late. back_nowhere bytes before after 0 c.in_err-start-2.ensures k (omega arith) occurs) (cases_lt k (length before)))

pub returns-clause-value : goal.returns-clause-value
returns-clause-value c =
    let before = c.halves.result.0.now in
    let after = c.halves.result.1.now in
    let bytes = c.args.finder.now in
    let none = none_before before after bytes c.args.text.now c.needle-bytes.result.now c.args.from c.max.result c.saturating_sub-across.result c.requires.some c.halves.ensures c.needle-bytes.ensures
    (omega arith) c.saturating_sub-across.ensures c.max.ensures c.in_default.ensures c.in_default-first_across.ensures in
    let hit = back_hit bytes before after 0 c.in_ok-start-2.start (omega arith) c.in_ok-start-2.ensures in
    let along : length before + 0 + c.in_ok-start-2.start ≡ length before + c.in_ok-start-2.start = omega arith in
    let here : OccursAt (before ++ after) bytes (length before + c.in_ok-start-2.start) = subst (OccursAt (before ++ after) bytes) along hit.0 in
    rw (← c.halves.ensures) (
      record {
        low = omega arith;
        high = omega (arith, here.fits);
        before = λ k low below occurs. ⊎_elim (λ early. none k low early occurs) (λ late. hit.1 k (omega arith) (omega arith) occurs) (cases_lt k (length before));
      },
      here,
    )
