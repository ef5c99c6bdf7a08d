use Rattle.std.proofs.Common.{◌≡◌}
use Rattle.teco_debugger.specs.Around.{after_lines}
use Rattle.teco_debugger.proofs.around.after_lines.Given as goal

abbrev pub invariant-loop-k : goal.invariant-loop-k
invariant-loop-k l = l.rest ≡ after_lines l.text l._k
