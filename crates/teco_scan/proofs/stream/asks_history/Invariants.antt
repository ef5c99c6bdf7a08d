use Rattle.std.proofs.Common.{◌≡◌, ◌-◌, ◌≤◌, length, drop}
use Rattle.teco_scan.specs.Stream.{asks_history}
use Rattle.teco_scan.proofs.stream.asks_history.Given as goal

-- no text before the start asks a move
abbrev pub invariant-loop-at : goal.invariant-loop-at
invariant-loop-at l = record {
  inside : l.start ≤ length l.commands;
  asks : asks_history l.commands ≡ asks_history (drop l.start l.commands);
}

abbrev pub decreases-loop-at : goal.decreases-loop-at
decreases-loop-at l = length l.commands - l.start
