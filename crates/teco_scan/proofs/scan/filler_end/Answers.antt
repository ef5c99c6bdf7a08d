use Rattle.std.proofs.Common.{arith}
use Rattle.teco_scan.specs.Scan.{after_fillers}
use Rattle.teco_scan.proofs.Places.{front, no_front}
use Rattle.teco_scan.proofs.scan.filler_end.Goals as goal

pub loop-to-preserved : goal.loop-to-preserved
unfolding after_fillers
loop-to-preserved c = grind (arith, front)

pub returns-else-is_filler-clause-read : goal.returns-else-is_filler-clause-read
unfolding after_fillers
returns-else-is_filler-clause-read c = grind (arith, front)

pub returns-after-loop-to-clause-read : goal.returns-after-loop-to-clause-read
unfolding after_fillers
returns-after-loop-to-clause-read c = grind (arith, no_front)
