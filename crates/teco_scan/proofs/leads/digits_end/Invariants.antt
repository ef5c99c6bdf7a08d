use Rattle.std.proofs.Common.{◌≡◌, ◌<◌, ◌≤◌, ◌-◌, length, drop}
use Rattle.teco_scan.specs.Scan.{after_run}
use Rattle.teco_scan.proofs.leads.digits_end.Given as goal

abbrev pub invariant-loop-to : goal.invariant-loop-to
invariant-loop-to l = record {
  within : l.to ≤ length l.text;
  past : l.at < l.to;
  rest : after_run (drop l.to l.text) ≡ after_run (drop l.at l.text);
}

abbrev pub decreases-loop-to : goal.decreases-loop-to
decreases-loop-to l = length l.text - l.to
