use Rattle.std.proofs.Common.{◌-◌}
use Rattle.teco_store.proofs.PageEnds.{IsSoFar}
use Rattle.teco_store.proofs.pages.page_of_lines.Given as goal

abbrev pub invariant-loop-line : goal.invariant-loop-line
invariant-loop-line l = IsSoFar l.lines l.left l.end (l.lines - l._line)
