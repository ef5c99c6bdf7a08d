use Rattle.std.proofs.Common.{◌≡◌, ◌≤◌, ◌-◌, length, drop}
use Rattle.teco_scan.specs.Scan.{after_fillers}
use Rattle.teco_exec.proofs.dispatch.token_start.Given as goal

abbrev pub invariant-loop-from : goal.invariant-loop-from
invariant-loop-from l = record {
  within : l.from ≤ length l.text;
  past : l.at ≤ l.from;
  rest : after_fillers (drop l.from l.text) ≡ after_fillers (drop l.at l.text);
}

abbrev pub decreases-loop-from : goal.decreases-loop-from
decreases-loop-from l = length l.text - l.from
