use Rattle.std.proofs.Common.{sym, ◌∙◌, arith}
use Rattle.memchr.proofs.lemmas.FindLemmas.{Nowhere-more}
use Rattle.teco_search.proofs.window.Needle.first_like.Goals as goal

pub starts-init : goal.starts-init
starts-init c = record { number = c.number_of-number.ensures; none = λ k low high. absurd (omega arith) }

pub returns-then-number-self : goal.returns-then-number-self
returns-then-number-self c = (
  record { low = omega arith; high = omega arith; before = c.starts.invariant.none },
  sym c.starts.invariant.number ∙ c.if-number-self.true,
)

pub starts-preserved : goal.starts-preserved
starts-preserved c = record {
  number = c.rolled-number.ensures;
  none = Nowhere-more c.starts.invariant.none (λ like. c.if-number-self.false (c.starts.invariant.number ∙ like));
}

pub returns : goal.returns
returns c = λ k low high like. c.starts.invariant.none k low (omega arith) like
