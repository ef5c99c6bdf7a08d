use Rattle.memchr.specs.Find.{Nowhere, Passes, is_byte}
use Rattle.teco_scan.proofs.operand.first_place.Given as goal

abbrev pub invariant-near : goal.invariant-near
invariant-near l = Nowhere (Passes (is_byte l.byte) l.bytes) 0 l.place
