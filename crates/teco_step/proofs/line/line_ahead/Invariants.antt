use Rattle.std.proofs.Common.{◌≡◌, ◌-◌, ◌≤◌, ◌++◌, drop, length, slice_get}
use Rattle.teco_step.specs.Line.{line_ends_from}
use Rattle.teco_step.proofs.line.line_ahead.Given as goal

-- What is looked for from the beginning is what is left of it from here.
abbrev pub invariant-ends : goal.invariant-ends
invariant-ends l =
    let text = l.before ++ l.after in
    record {
      within : l.place ≤ length text;
      same : slice_get (line_ends_from l.place (drop l.place text)) l.left ≡ slice_get (line_ends_from l.from (drop l.from text)) l.skip;
    }

abbrev pub decreases-ends : goal.decreases-ends
decreases-ends l = length (l.before ++ l.after) - l.place
