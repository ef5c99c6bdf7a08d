use Rattle.std.proofs.Common.{◌≡◌, ◌+◌, ◌≤◌, ℕ}
use Rattle.teco_search.specs.Occurrence.{blanks_at}
use Rattle.teco_search.proofs.run.blanks_start.Given as goal

abbrev pub invariant-blanks : goal.invariant-blanks
invariant-blanks l = record {
  before : l.start ≤ l.at;
  run : (k : ℕ) → l.start ≤ k → k ≤ l.at → k + blanks_at l.text k ≡ l.at + blanks_at l.text l.at;
}

abbrev pub decreases-blanks : goal.decreases-blanks
decreases-blanks l = l.start
