use Rattle.std.proofs.Common.{◌≡◌, ◌+◌, ◌≤◌, ◌-◌, length}
use Rattle.teco_search.specs.Occurrence.{forward}
use Rattle.teco_search.specs.Search.{sought_forward}
use Rattle.teco_search.proofs.search.count_forward.Given as goal

abbrev pub invariant-counted : goal.invariant-counted
invariant-counted g l = record {
  within : l.at ≤ length l.text;
  few : l.count ≤ l.at;
  same : length (forward (sought_forward l.search) l.text l.from) ≡ l.count + length (forward (sought_forward l.search) l.text l.at);
}

abbrev pub decreases-counted : goal.decreases-counted
decreases-counted g l = length l.text - l.at
