use Rattle.std.proofs.Common.{◌≡◌, ◌+◌, ◌-◌, ◌≤◌, List, ℕ}
use Rattle.std.specs.Prelude.{sum}
use Rattle.teco_debugger.specs.Moving.{AreTried, PassesBetween, goal as to_stop}
use Rattle.teco_debugger.specs.declared.stops.TheConstants.{MOST_WORK}
use Rattle.teco_debugger.proofs.stops.first_stop.Given as goal

abbrev pub invariant-loop-first : goal.invariant-loop-first
invariant-loop-first l = record {
  after : l.from ≤ l.first;
  passed : PassesBetween l.places.sources.now l.walk (to_stop l.stops l.places.calls) l.from l.first;
  tried : (tried : List ℕ) × AreTried l.places.sources.now l.walk (to_stop l.stops l.places.calls) l.from l.first tried × (l.work + sum tried ≡ MOST_WORK);
}

abbrev pub decreases-loop-first : goal.decreases-loop-first
decreases-loop-first l = l.limit - l.first
