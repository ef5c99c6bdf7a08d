use Rattle.std.proofs.Common.{◌-◌, subst, arith, ⊎_elim}
use Rattle.std.proofs.lemmas.Bool.{both_ways, cases_eq}
use Rattle.memchr.specs.Find.{OccursAt}
use Rattle.teco_search.proofs.literal.last_compared.Goals as goal

pub returns-then-has : goal.returns-then-has
returns-then-has c = (
  record { low = omega arith; high = omega arith; after = λ k low high occurs. c.starts.invariant.none k (omega arith) high occurs },
  c.has.ensures.holds.0 c.if-has.true,
)

pub starts-preserved : goal.starts-preserved
starts-preserved c = record {
  within = omega arith;
  none = λ k low high occurs. ⊎_elim
      (λ same. both_ways c.has.result c.if-has.false (c.has.ensures.holds.1 (subst (OccursAt c.args.text.now c.args.bytes.now) same occurs)))
      (λ other. c.starts.invariant.none k (omega arith) high occurs) (cases_eq k (c.starts.start - 1));
}

pub returns : goal.returns
returns c = λ k low high occurs. c.starts.invariant.none k (omega arith) high occurs
