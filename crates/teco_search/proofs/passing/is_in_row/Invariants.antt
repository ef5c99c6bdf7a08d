use Rattle.std.proofs.Common.{◌≡◌, false}
use Rattle.memchr.specs.Find.{Nowhere, Passes}
use Rattle.teco_search.proofs.passing.is_in_row.Given as goal

abbrev pub invariant-bytes : goal.invariant-bytes
invariant-bytes g l = l.is_in ≡ false → Nowhere (Passes (g.T.Test.admits l.test) l.row) 0 l.byte-index
