use Rattle.std.proofs.Common.{◌≡◌, drop, map}
use Rattle.teco_search.specs.Literal.{plain}
use Rattle.teco_search.specs.Occurrence.{match_end}
use Rattle.teco_search.proofs.plain_bytes.match_at.Given as goal

abbrev pub invariant-bytes : goal.invariant-bytes
invariant-bytes l = match_end l.mode (drop l.byte-index (map plain l.bytes)) l.text l.place ≡ match_end l.mode (map plain l.bytes) l.text l.at
