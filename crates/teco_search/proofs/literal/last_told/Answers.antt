use Rattle.std.proofs.Common.{subst, arith, ⊎_elim}
use Rattle.std.proofs.lemmas.Bool.{both_ways, cases_eq, cases_lt}
use Rattle.memchr.specs.Find.{OccursAt}
use Rattle.teco_search.proofs.Windows.{occurs_like}
use Rattle.teco_search.proofs.literal.last_told.Goals as goal

pub returns-in_default : goal.returns-in_default
returns-in_default c = λ k low high occurs. ⊎_elim
    (λ early. c.in_default.ensures k low early (occurs_like c.args.text.now c.args.bytes.now c.of-needle.result k c.of-needle.ensures occurs))
    (λ late. c.ends.invariant.none k late high occurs)
    (cases_lt k c.ends.end)

pub returns-then-has : goal.returns-then-has
returns-then-has c =
    let last = c.in-Some.ensures in (
      record {
        low = last.0.low;
        high = omega (arith, last.0.high);
        after = λ k low high occurs. ⊎_elim
            (λ early. last.0.after k low early (occurs_like c.args.text.now c.args.bytes.now c.of-needle.result k c.of-needle.ensures occurs))
            (λ late. c.ends.invariant.none k late high occurs)
            (cases_lt k c.ends.end);
      },
      c.has.ensures.holds.0 c.if-has.true,
    )

pub ends-preserved : goal.ends-preserved
ends-preserved c =
    let last = c.in-Some.ensures in
    record {
      within = omega (arith, last.0.high);
      none = λ k low high occurs. ⊎_elim
          (λ early. ⊎_elim
          (λ same. both_ways c.has.result c.if-has.false (c.has.ensures.holds.1 (subst (OccursAt c.args.text.now c.args.bytes.now) same occurs)))
          (λ other. last.0.after k (omega arith) early (occurs_like c.args.text.now c.args.bytes.now c.of-needle.result k c.of-needle.ensures occurs))
          (cases_eq k c.in-Some.like))
          (λ late. c.ends.invariant.none k late high occurs)
          (cases_lt k c.ends.end);
    }

pub ends-smaller : goal.ends-smaller
ends-smaller c =
    let last = c.in-Some.ensures in
    omega (arith, last.0.high)

pub returns : goal.returns
returns c = λ k low high occurs. c.ends.invariant.none k (omega arith) high occurs
