use Rattle.std.proofs.Common.{◌≤◌, length}
use Rattle.memchr.specs.Find.{Nowhere, Passes}
use Rattle.teco_search.proofs.passing.last_passing.Given as goal

abbrev pub invariant-places : goal.invariant-places
invariant-places g l = record {
  within : l.place ≤ length l.bytes;
  none : Nowhere (Passes (g.T.Test.admits l.test) l.bytes) l.place (length l.bytes);
}

abbrev pub decreases-places : goal.decreases-places
decreases-places g l = l.place
