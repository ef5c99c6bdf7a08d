use Rattle.std.proofs.Common.{◌≡◌, ◌+◌, ◌-◌, ◌≤◌, length, drop}
use Rattle.std.specs.Prelude.{not}
use Rattle.std.specs.List.{prefix_len}
use Rattle.teco_messages.specs.Spot.{is_newline}
use Rattle.teco_messages.proofs.spot.line_end.Given as goal

abbrev pub invariant-loop-end : goal.invariant-loop-end
invariant-loop-end l = record {
  from : l.fn.at ≤ l.end;
  within : l.end ≤ length l.text;
  line : l.end + prefix_len (λ b. not (is_newline b)) (drop l.end l.text) ≡ l.fn.at + prefix_len (λ b. not (is_newline b)) (drop l.fn.at l.text);
}

abbrev pub decreases-loop-end : goal.decreases-loop-end
decreases-loop-end l = length l.text - l.end
