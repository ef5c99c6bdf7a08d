use Rattle.std.proofs.Common.{◌≡◌, ◌++◌}
use Rattle.std.specs.String.{string_bytes}
use Rattle.teco_messages.specs.Stop.{calls_shown}
use Rattle.teco_messages.proofs.stop.show_calls.Given as goal

abbrev pub invariant-loop-k : goal.invariant-loop-k
invariant-loop-k l = string_bytes l.out ≡ string_bytes l.fn.out ++ calls_shown l.place l.registers l.string l.k
