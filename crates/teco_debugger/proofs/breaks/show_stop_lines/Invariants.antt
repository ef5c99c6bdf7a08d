use Rattle.std.proofs.Common.{◌≡◌, ◌++◌}
use Rattle.std.specs.String.{string_bytes}
use Rattle.teco_debugger.specs.Breaks.{stop_lines}
use Rattle.teco_debugger.proofs.breaks.show_stop_lines.Given as goal

abbrev pub invariant-loop-k : goal.invariant-loop-k
invariant-loop-k l = string_bytes l.out ≡ string_bytes l.fn.out ++ stop_lines l.sources l.stops l.k
