use Rattle.std.proofs.Common.{◌≡◌, ◌+◌, ◌-◌, ◌≤◌, length}
use Rattle.teco_search.specs.Occurrence.{blanks_at}
use Rattle.teco_search.proofs.matching.blanks_end.Given as goal

abbrev pub invariant-blanks : goal.invariant-blanks
invariant-blanks l = record {
  past : l.at ≤ l.end;
  same : l.end + blanks_at l.text l.end ≡ l.at + blanks_at l.text l.at;
}

abbrev pub decreases-blanks : goal.decreases-blanks
decreases-blanks l = length l.text - l.end
