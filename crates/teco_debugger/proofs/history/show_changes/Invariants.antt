use Rattle.std.proofs.Common.{◌≡◌, ◌++◌, take}
use Rattle.std.specs.List.{flat_map}
use Rattle.std.specs.String.{string_bytes}
use Rattle.teco_debugger.specs.History.{change_shown}
use Rattle.teco_debugger.specs.Walk.{SameString}
use Rattle.teco_debugger.proofs.history.show_changes.Given as goal

abbrev pub invariant-loop-n : goal.invariant-loop-n
invariant-loop-n l = record {
  shown : string_bytes l.out ≡ string_bytes l.fn.out ++ flat_map (change_shown l.walk l.q) (take l.n-index l.steps);
  string : SameString l.walk l.other;
}
