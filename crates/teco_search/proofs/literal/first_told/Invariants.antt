use Rattle.std.proofs.Common.{◌≤◌, ◌-◌}
use Rattle.memchr.specs.Find.{Nowhere, OccursAt}
use Rattle.teco_search.proofs.literal.first_told.Given as goal

abbrev pub invariant-starts : goal.invariant-starts
invariant-starts l = record {
  low : l.from ≤ l.start;
  none : Nowhere (OccursAt l.text l.bytes) l.from l.start;
}

abbrev pub decreases-starts : goal.decreases-starts
decreases-starts l = l.to - l.start
