use Rattle.std.proofs.Common.{◌≡◌, take}
use Rattle.std.specs.Prelude.{count_by}
use Rattle.teco_core.specs.Ascii.{is_line_end}
use Rattle.teco_ffi.proofs.halves.line_ends.Given as goal

abbrev pub invariant-loop-byte : goal.invariant-loop-byte
invariant-loop-byte l = l.count ≡ count_by is_line_end (take l.byte-index l.bytes)
