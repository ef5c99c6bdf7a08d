use Rattle.std.proofs.Common.{arith}
use Rattle.memchr.specs.Find.{is_byte}
use Rattle.teco_scan.proofs.Nearest.{first_later, none_later}
use Rattle.teco_scan.proofs.operand.first_place.Goals as goal

pub returns-in-None : goal.returns-in-None
returns-in-None c = none_later (is_byte c.args.byte) c.args.bytes.now c.min-near.result (omega arith) (λ k low high. c.near.invariant k low (omega arith)) c.in-None.ensures

pub returns-in-Some : goal.returns-in-Some
returns-in-Some c = first_later (is_byte c.args.byte) c.args.bytes.now c.min-near.result (omega arith) (λ k low high. c.near.invariant k low (omega arith)) c.in-Some.n c.in-Some.ensures
