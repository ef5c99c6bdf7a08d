use Rattle.std.proofs.Common.{◌≤◌}
use Rattle.memchr.specs.Find.{Nowhere, OccursAt}
use Rattle.teco_search.proofs.literal.last_compared.Given as goal

abbrev pub invariant-starts : goal.invariant-starts
invariant-starts l = record {
  within : l.start ≤ l.to;
  none : Nowhere (OccursAt l.text l.bytes) l.start l.to;
}

abbrev pub decreases-starts : goal.decreases-starts
decreases-starts l = l.start
