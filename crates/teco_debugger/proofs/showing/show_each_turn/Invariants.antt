use Rattle.std.proofs.Common.{◌≡◌, ◌++◌, take}
use Rattle.std.specs.String.{string_bytes}
use Rattle.teco_debugger.specs.Showing.{each_turn_shown}
use Rattle.teco_debugger.proofs.showing.show_each_turn.Given as goal

abbrev pub invariant-loop-turn : goal.invariant-loop-turn
invariant-loop-turn l = string_bytes l.out ≡ string_bytes l.fn.out ++ each_turn_shown (take l.turn-index l.turns)
