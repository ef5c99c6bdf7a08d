use Rattle.std.proofs.Common.{◌≡◌, ◌+◌, ◌-◌, ◌<◌, ◌≤◌, ℕ, None, length}
use Rattle.teco_search.specs.Occurrence.{match_end}
use Rattle.teco_search.proofs.places.first_from.Given as goal

abbrev pub invariant-places : goal.invariant-places
invariant-places g l = record {
  low : l.from + l.anchor.offset ≤ l.at;
  high : l.at ≤ length l.text;
  none : (k : ℕ) → l.from ≤ k → k + l.anchor.offset < l.at → match_end l.mode l.elements l.text k ≡ None;
}

abbrev pub decreases-places : goal.decreases-places
decreases-places g l = length l.text - l.at
