use Rattle.std.proofs.Common.{arith}
use Rattle.std.proofs.lemmas.Bool.{both_ways}
use Rattle.memchr.proofs.lemmas.FindLemmas.{Nowhere-more}
use Rattle.teco_search.proofs.literal.first_compared.Goals as goal

pub starts-preserved : goal.starts-preserved
starts-preserved c = Nowhere-more c.starts.invariant (λ occurs. both_ways c.has.result c.if-has.false (c.has.ensures.holds.1 occurs))

pub returns : goal.returns
returns c = λ k low high occurs. c.starts.invariant k low (omega arith) occurs
