use Rattle.std.proofs.Common.{◌≡◌, ◌++◌, take}
use Rattle.std.specs.String.{string_bytes}
use Rattle.teco_messages.specs.Spelling.{spelled}
use Rattle.teco_messages.proofs.spelling.spell.Given as goal

abbrev pub invariant-loop-byte : goal.invariant-loop-byte
invariant-loop-byte l = string_bytes l.out ≡ string_bytes l.fn.out ++ spelled (take l.byte-index l.bytes)
