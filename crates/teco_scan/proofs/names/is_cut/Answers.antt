use Rattle.std.proofs.Common.{arith}
use Rattle.std.proofs.lemmas.Grind.{common_steps}
use Rattle.teco_scan.specs.Scan.{is_cut}
use Rattle.teco_scan.proofs.names.is_cut.Goals as goal

pub returns-then-ends_inside : goal.returns-then-ends_inside
unfolding is_cut
returns-then-ends_inside c = grind (arith, common_steps)

pub loop-row-preserved : goal.loop-row-preserved
unfolding is_cut
loop-row-preserved c = grind (arith, common_steps)

pub returns : goal.returns
unfolding is_cut
returns c = grind (arith, common_steps)
