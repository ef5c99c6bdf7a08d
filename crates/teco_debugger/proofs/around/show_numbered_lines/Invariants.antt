use Rattle.std.proofs.Common.{◌≡◌, ◌+◌, ◌++◌}
use Rattle.std.specs.String.{string_bytes}
use Rattle.teco_debugger.specs.Around.{after_lines, numbered_lines}
use Rattle.teco_debugger.proofs.around.show_numbered_lines.Given as goal

abbrev pub invariant-loop-k : goal.invariant-loop-k
invariant-loop-k l = record {
  rest : l.rest ≡ after_lines l.text (l.from + l.k);
  shown : string_bytes l.out ≡ string_bytes l.fn.out ++ numbered_lines l.text l.from l.k;
}
