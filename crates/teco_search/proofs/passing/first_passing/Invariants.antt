use Rattle.memchr.specs.Find.{Nowhere, Passes}
use Rattle.teco_search.proofs.passing.first_passing.Given as goal

abbrev pub invariant-places : goal.invariant-places
invariant-places g l = Nowhere (Passes (g.T.Test.admits l.test) l.bytes) 0 l.place
