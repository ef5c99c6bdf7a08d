use Rattle.std.proofs.Common.{length, ◌-◌, ◌≤◌, ◌<◌}
use Rattle.teco_search.proofs.Lists.{ElementsSoFar}
use Rattle.teco_search.proofs.reading.read.Given as goal

abbrev pub invariant-elements : goal.invariant-elements
invariant-elements l = record {
  within : l.at ≤ length l.text;
  so_far : ElementsSoFar l.text l.elements.items l.at;
  some : 0 < l.at → 0 < length l.elements.items;
}

abbrev pub decreases-elements : goal.decreases-elements
decreases-elements l = length l.text - l.at
