use Rattle.std.proofs.Common.{◌≡◌, ◌+◌, ◌≤◌, length, take}
use Rattle.std.specs.List.{suffix_len}
use Rattle.std.specs.Prelude.{not}
use Rattle.teco_debugger.specs.Commands.{is_colon}
use Rattle.teco_debugger.proofs.command.last_piece.Given as goal

abbrev pub invariant-loop-start : goal.invariant-loop-start
invariant-loop-start l = record {
  within : l.start ≤ length l.bytes;
  piece : l.start + suffix_len (λ b. not (is_colon b)) l.bytes ≡ length l.bytes + suffix_len (λ b. not (is_colon b)) (take l.start l.bytes);
}

abbrev pub decreases-loop-start : goal.decreases-loop-start
decreases-loop-start l = l.start
