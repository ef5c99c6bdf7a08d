use Rattle.std.proofs.Common.{◌≡◌, ◌+◌, ◌≤◌, take}
use Rattle.std.specs.Prelude.{not}
use Rattle.std.specs.List.{suffix_len}
use Rattle.teco_messages.specs.Spot.{is_newline}
use Rattle.teco_messages.proofs.spot.line_start.Given as goal

abbrev pub invariant-loop-start : goal.invariant-loop-start
invariant-loop-start l = record {
  within : l.start ≤ l.fn.at;
  line : l.start + suffix_len (λ b. not (is_newline b)) (take l.fn.at l.text) ≡ l.fn.at + suffix_len (λ b. not (is_newline b)) (take l.start l.text);
}

abbrev pub decreases-loop-start : goal.decreases-loop-start
decreases-loop-start l = l.start
