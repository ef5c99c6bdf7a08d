use Rattle.std.proofs.Common.{arith}
use Rattle.teco_scan.specs.Scan.{after_fillers}
use Rattle.teco_scan.proofs.Places.{front, no_front}
use Rattle.teco_exec.proofs.dispatch.token_start.Goals as goal

pub loop-from-preserved : goal.loop-from-preserved
unfolding after_fillers
loop-from-preserved c = grind (arith, front)

pub returns-then-not-is_filler : goal.returns-then-not-is_filler
unfolding after_fillers
returns-then-not-is_filler c = grind (arith, front)

pub returns : goal.returns
unfolding after_fillers
returns c = grind (arith, no_front)
