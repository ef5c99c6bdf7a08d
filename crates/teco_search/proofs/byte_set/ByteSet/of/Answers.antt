use Rattle.std.proofs.Common.{◌+◌, refl, subst, sym, arith, rules}
use Rattle.teco_search.proofs.Tables.{IsSetSoFar, set_more, set_same}
use Rattle.teco_search.proofs.byte_set.ByteSet.of.Goals as goal
use Rattle.teco_search.proofs.byte_set.ByteSet.of.Goals.{then-table-byte+in-Some, else-table-byte}

pub bytes-init : goal.bytes-init
bytes-init c = record { seen = λ b below. absurd (omega arith); others = λ b above. refl }

pub bytes-preserved : goal.bytes-preserved
bytes-preserved c = elim c.if-table-byte.branch [
  | then-table-byte+in-Some w ↦ subst (λ s. IsSetSoFar c.args.table s (c.bytes.byte + 1)) (sym w.set-is) (set_more c.args.table c.bytes.byte (search rules) c.bytes.set c.bytes.invariant w.in-Some.more w.if-table-byte.true w.in-Some.ensures)
  | else-table-byte w ↦ subst (λ s. IsSetSoFar c.args.table s (c.bytes.byte + 1)) (sym w.set-is) (set_same c.args.table c.bytes.byte (search rules) c.bytes.set c.bytes.invariant w.if-table-byte.false)
]
