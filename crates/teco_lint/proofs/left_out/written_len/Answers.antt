use Rattle.std.proofs.Common.{arith}
use Rattle.std.proofs.lemmas.Grind.{common_steps}
use Rattle.teco_lint.proofs.left_out.written_len.Goals as goal

pub loop-rest-smaller : goal.loop-rest-smaller
loop-rest-smaller c = grind (arith, common_steps)

pub loop-rest-preserved : goal.loop-rest-preserved
loop-rest-preserved c = grind (arith, common_steps)

pub bounds-after-0 : goal.bounds-after-0
bounds-after-0 c = grind (arith, common_steps)

pub slice_bounds-more-count : goal.slice_bounds-more-count
slice_bounds-more-count c = grind (arith, common_steps)

pub slice_bounds-more-start : goal.slice_bounds-more-start
slice_bounds-more-start c = grind (arith, common_steps)
