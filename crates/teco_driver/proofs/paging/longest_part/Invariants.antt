use Rattle.memchr.specs.Find.{is_byte3}
use Rattle.teco_driver.proofs.Parts.{IsSoFar}
use Rattle.teco_driver.proofs.paging.longest_part.Given as goal

abbrev pub invariant-loop-end : goal.invariant-loop-end
invariant-loop-end l = record {
  can_next : (goal.iterator-loop-end).can_next l.end-iterator;
  is_finite : (goal.iterator-loop-end).is_finite l.end-iterator;
  so_far : IsSoFar (is_byte3 l.a l.b l.c) l.text l.longest l.from l.end-iterator;
}
