use Rattle.std.proofs.Common.{◌≡◌, ◌≤◌, ◌++◌, length, reverse, slice_get, take}
use Rattle.teco_step.specs.Line.{line_ends_from}
use Rattle.teco_step.proofs.line.line_back.Given as goal

-- What is looked for from the end is what is left of it from here.
abbrev pub invariant-ends : goal.invariant-ends
invariant-ends l =
    let text = l.before ++ l.after in
    record {
      within : l.place ≤ length text;
      same : slice_get (reverse (line_ends_from 0 (take l.place text))) l.left ≡ slice_get (reverse (line_ends_from 0 (take l.from text))) l.skip;
    }

abbrev pub decreases-ends : goal.decreases-ends
decreases-ends l = l.place
