use Rattle.std.proofs.Common.{arith}
use Rattle.std.proofs.lemmas.Grind.{common_steps}
use Rattle.teco_scan.specs.Scan.{row_at}
use Rattle.teco_scan.proofs.names.row_at.Goals as goal

pub returns-in-Some-clause-read : goal.returns-in-Some-clause-read
unfolding row_at
returns-in-Some-clause-read c = grind (arith, common_steps)

pub loop-row-preserved : goal.loop-row-preserved
unfolding row_at
loop-row-preserved c = grind (arith, common_steps)

pub returns-clause-read : goal.returns-clause-read
unfolding row_at
returns-clause-read c = grind (arith, common_steps)
