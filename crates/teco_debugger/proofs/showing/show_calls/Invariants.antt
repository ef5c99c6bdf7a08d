use Rattle.std.proofs.Common.{◌≡◌, ◌++◌}
use Rattle.std.specs.String.{string_bytes}
use Rattle.teco_debugger.specs.Showing.{call_lines}
use Rattle.teco_debugger.proofs.showing.show_calls.Given as goal

abbrev pub invariant-loop-k : goal.invariant-loop-k
invariant-loop-k l = string_bytes l.out ≡ string_bytes l.fn.out ++ call_lines l.walk l.string l.place l.k
