use Rattle.std.proofs.Common.{length, ◌-◌, ◌≤◌}
use Rattle.teco_search.proofs.Lists.{ItemsSoFar}
use Rattle.teco_search.proofs.reading.items_at.Given as goal

abbrev pub invariant-items : goal.invariant-items
invariant-items l = record {
  past : l.at-2 ≤ l.at;
  so_far : ItemsSoFar l.text l.at-2 l.items.items l.at;
}

abbrev pub decreases-items : goal.decreases-items
decreases-items l = length l.text - l.at
