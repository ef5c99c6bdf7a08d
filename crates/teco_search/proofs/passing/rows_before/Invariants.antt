use Rattle.std.proofs.Common.{◌-◌, ◌≤◌, length}
use Rattle.memchr.specs.Find.{Nowhere, Passes}
use Rattle.teco_search.proofs.passing.rows_before.Given as goal

abbrev pub invariant-rows : goal.invariant-rows
invariant-rows g l = record {
  within : l.from ≤ length l.bytes;
  none : Nowhere (Passes (g.T.Test.admits l.test) l.bytes) 0 l.from;
}

abbrev pub decreases-rows : goal.decreases-rows
decreases-rows g l = length l.bytes - l.from
