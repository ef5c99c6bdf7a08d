use Rattle.std.proofs.Common.{subst, arith, ⊎_elim}
use Rattle.std.proofs.lemmas.Bool.{both_ways, cases_eq, cases_lt}
use Rattle.memchr.specs.Find.{OccursAt}
use Rattle.teco_search.proofs.Windows.{occurs_like}
use Rattle.teco_search.proofs.literal.first_told.Goals as goal

pub returns-in_default : goal.returns-in_default
returns-in_default c = λ k low high occurs. ⊎_elim
    (λ early. c.starts.invariant.none k low early occurs)
    (λ late. c.in_default.ensures k late high (occurs_like c.args.text.now c.args.bytes.now c.of-needle.result k c.of-needle.ensures occurs))
    (cases_lt k c.starts.start)

pub returns-then-has : goal.returns-then-has
returns-then-has c =
    let first = c.in-Some.ensures in (
      record {
        low = omega (arith, first.0.low);
        high = first.0.high;
        before = λ k low high occurs. ⊎_elim
            (λ early. c.starts.invariant.none k low early occurs)
            (λ late. first.0.before k late high (occurs_like c.args.text.now c.args.bytes.now c.of-needle.result k c.of-needle.ensures occurs))
            (cases_lt k c.starts.start);
      },
      c.has.ensures.holds.0 c.if-has.true,
    )

pub starts-preserved : goal.starts-preserved
starts-preserved c =
    let first = c.in-Some.ensures in
    record {
      low = omega (arith, first.0.low);
      none = λ k low high occurs. ⊎_elim
          (λ early. c.starts.invariant.none k low early occurs)
          (λ late. ⊎_elim
          (λ same. both_ways c.has.result c.if-has.false (c.has.ensures.holds.1 (subst (OccursAt c.args.text.now c.args.bytes.now) same occurs)))
          (λ other. first.0.before k late (omega arith) (occurs_like c.args.text.now c.args.bytes.now c.of-needle.result k c.of-needle.ensures occurs))
          (cases_eq k c.in-Some.like))
          (cases_lt k c.starts.start);
    }

pub starts-smaller : goal.starts-smaller
starts-smaller c =
    let first = c.in-Some.ensures in
    omega (arith, first.0.low, first.0.high)

pub returns : goal.returns
returns c = λ k low high occurs. c.starts.invariant.none k low (omega arith) occurs
