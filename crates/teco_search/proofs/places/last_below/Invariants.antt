use Rattle.std.proofs.Common.{◌≡◌, ◌+◌, ◌<◌, ◌≤◌, ℕ, Some, length}
use Rattle.teco_search.specs.Occurrence.{match_end}
use Rattle.teco_search.proofs.places.last_below.Given as goal

abbrev pub invariant-places : goal.invariant-places
invariant-places g l = record {
  high : l.at ≤ l.below;
  within : l.at ≤ length l.text;
  none : (k q : ℕ) → l.at ≤ k + l.anchor.offset → k + l.anchor.offset < l.below → match_end l.mode l.elements l.text k ≡ Some q → l.to < q;
}

abbrev pub decreases-places : goal.decreases-places
decreases-places g l = l.at
