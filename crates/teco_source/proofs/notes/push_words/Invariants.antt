use Rattle.std.proofs.Common.{length, ◌-◌, ◌≤◌}
use Rattle.teco_source.proofs.notes.push_words.Given as goal

abbrev pub invariant-loop-place : goal.invariant-loop-place
invariant-loop-place l = l.place ≤ length l.text

abbrev pub decreases-loop-place : goal.decreases-loop-place
decreases-loop-place l = length l.text - l.place
