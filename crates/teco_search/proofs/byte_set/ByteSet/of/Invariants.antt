use Rattle.teco_search.proofs.Tables.{IsSetSoFar}
use Rattle.teco_search.proofs.byte_set.ByteSet.of.Given as goal

abbrev pub invariant-bytes : goal.invariant-bytes
invariant-bytes l = IsSetSoFar l.table l.set l.byte
