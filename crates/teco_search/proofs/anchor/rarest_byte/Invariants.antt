use Rattle.std.proofs.Common.{◌<◌, length}
use Rattle.teco_search.proofs.anchor.rarest_byte.Given as goal

abbrev pub invariant-offsets : goal.invariant-offsets
invariant-offsets l = l.rarest < length l.bytes
