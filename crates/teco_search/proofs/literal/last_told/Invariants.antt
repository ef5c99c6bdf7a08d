use Rattle.std.proofs.Common.{◌≤◌}
use Rattle.memchr.specs.Find.{Nowhere, OccursAt}
use Rattle.teco_search.proofs.literal.last_told.Given as goal

abbrev pub invariant-ends : goal.invariant-ends
invariant-ends l = record {
  within : l.end ≤ l.to;
  none : Nowhere (OccursAt l.text l.bytes) l.end l.to;
}

abbrev pub decreases-ends : goal.decreases-ends
decreases-ends l = l.end
