use Rattle.std.proofs.Common.{◌≡◌, ◌+◌, ◌-◌, ◌<◌, ◌≤◌, length}
use Rattle.std.specs.Prelude.{slice_get}
use Rattle.teco_search.specs.Occurrence.{forward}
use Rattle.teco_search.specs.Search.{sought_forward}
use Rattle.teco_search.proofs.search.nth_forward.Given as goal

abbrev pub invariant-wanted : goal.invariant-wanted
invariant-wanted g l = record {
  within : l.at ≤ length l.text;
  some : 0 < l.wanted;
  passed : l.wanted + length (forward (sought_forward l.search) l.text l.from) ≡ l.n + length (forward (sought_forward l.search) l.text l.at);
  same : slice_get (forward (sought_forward l.search) l.text l.from) (l.n - 1) ≡ slice_get (forward (sought_forward l.search) l.text l.at) (l.wanted - 1);
}

abbrev pub decreases-wanted : goal.decreases-wanted
decreases-wanted g l = l.wanted
