use Rattle.std.proofs.Common.{◌≡◌, ◌++◌, replicate}
use Rattle.teco_gap.proofs.block.Block.with_zeros.Given as goal

abbrev pub invariant-loop-written : goal.invariant-loop-written
invariant-loop-written l = (l.region.bytes ≡ l.fn.self.region.bytes ++ replicate l._written 0) × (l.region.cap ≡ l.fn.self.cap) × (l.region.alloc ≡ l.fn.self.alloc)
