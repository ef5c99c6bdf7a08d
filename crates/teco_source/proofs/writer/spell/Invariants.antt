use Rattle.std.proofs.Common.{◌≡◌, ◌++◌, drop}
use Rattle.teco_source.specs.Listing.{spelled}
use Rattle.teco_source.proofs.writer.spell.Given as goal

abbrev pub invariant-loop-byte : goal.invariant-loop-byte
invariant-loop-byte l = l.out.items ++ spelled l.mode (drop l.byte-index l.bytes) ≡ l.fn.out.items ++ spelled l.fn.mode l.fn.bytes
