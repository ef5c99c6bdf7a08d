use Rattle.std.proofs.Common.{◌≡◌, ◌++◌, take}
use Rattle.std.specs.String.{string_bytes}
use Rattle.teco_debugger.specs.Listing.{lines_shown}
use Rattle.teco_debugger.proofs.listing.spell_lines.Given as goal

abbrev pub invariant-loop-byte : goal.invariant-loop-byte
invariant-loop-byte l = string_bytes l.out ≡ string_bytes l.fn.out ++ lines_shown (take l.byte-index l.bytes)
