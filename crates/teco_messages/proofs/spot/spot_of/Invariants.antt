use Rattle.std.proofs.Common.{◌≡◌, take}
use Rattle.std.specs.Prelude.{count_by}
use Rattle.teco_messages.specs.Spot.{is_newline}
use Rattle.teco_messages.proofs.spot.spot_of.Given as goal

abbrev pub invariant-loop-byte : goal.invariant-loop-byte
invariant-loop-byte l = l.lines ≡ count_by is_newline (take l.byte-index (take l.fn.at l.text))
