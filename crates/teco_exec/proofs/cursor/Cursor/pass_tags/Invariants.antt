use Rattle.std.proofs.Common.{length}
use Rattle.teco_exec.specs.TextStep.{GoesOnAlike}
use Rattle.teco_exec.specs.View.{cursor}
use Rattle.teco_exec.proofs.cursor.Cursor.pass_tags.Given as goal

abbrev pub invariant-tags : goal.invariant-tags
invariant-tags l = GoesOnAlike l.fn.self l.self

abbrev pub decreases-tags : goal.decreases-tags
decreases-tags l = length (cursor l.self).left
