use Rattle.std.proofs.Common.{take}
use Rattle.std.specs.Fmt.{HasWritten, IsPlainFormatter}
use Rattle.std.specs.List.{flat_map}
use Rattle.teco_search.specs.Shown.{shown_byte}
use Rattle.teco_search.proofs.pattern.show_bytes.Given as goal

abbrev pub invariant-bytes : goal.invariant-bytes
invariant-bytes g l =
    IsPlainFormatter l.initial.f → HasWritten g.W.Write.write_str_gives l.initial.f (flat_map shown_byte (take l.byte-index l.bytes)) l.f
