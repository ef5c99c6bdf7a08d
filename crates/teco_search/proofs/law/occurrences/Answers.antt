use Rattle.teco_search.proofs.Laws.{long, forward_law, backward_law, rising, falling}
use Rattle.teco_search.proofs.law.occurrences.Goals as goal

pub returns : goal.returns
returns c = record {
  long = λ sought text some. long sought text some;
  forward = λ sought text from ms some. forward_law sought text some from ms;
  backward = λ sought text from ms some. backward_law sought text some from ms;
  rising = λ sought text from some. rising sought text some from;
  falling = λ sought text from some. falling sought text some from;
}
