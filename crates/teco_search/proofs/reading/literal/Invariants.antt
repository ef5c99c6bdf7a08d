use Rattle.std.proofs.Common.{◌≡◌, length, ◌-◌, ◌≤◌, ◌<◌, map, true}
use Rattle.std.specs.List.{list_all}
use Rattle.teco_search.specs.Literal.{plain, is_exact}
use Rattle.teco_search.proofs.Lists.{ElementsSoFar}
use Rattle.teco_search.proofs.reading.literal.Given as goal

abbrev pub invariant-bytes : goal.invariant-bytes
invariant-bytes l = record {
  within : l.at ≤ length l.text;
  so_far : ElementsSoFar l.text (map plain l.bytes.items) l.at;
  exact : list_all (is_exact l.mode) l.bytes.items ≡ true;
  some : 0 < l.at → 0 < length l.bytes.items;
}

abbrev pub decreases-bytes : goal.decreases-bytes
decreases-bytes l = length l.text - l.at
