use Rattle.std.proofs.Common.{◌≤◌, ◌-◌, length, drop}
use Rattle.teco_core.specs.declared.profile.Profile.{Profile}
use Rattle.teco_scan.specs.Skip.{AreAlike}
use Rattle.teco_scan.proofs.blocks.passed_end.Given as goal

abbrev pub invariant-loop-to : goal.invariant-loop-to
invariant-loop-to l = record {
  past : l.at ≤ l.to;
  within : l.to ≤ length l.text;
  alike : (p : Profile) → AreAlike p (drop l.at l.text) (drop l.to l.text);
}

abbrev pub decreases-loop-to : goal.decreases-loop-to
decreases-loop-to l = length l.text - l.to
