use Rattle.std.proofs.Common.{arith}
use Rattle.teco_scan.specs.Scan.{after_name}
use Rattle.teco_scan.proofs.Places.{front, no_front}
use Rattle.teco_scan.proofs.names.name_end.Goals as goal

pub returns-then-at-text-clause-read : goal.returns-then-at-text-clause-read
unfolding after_name
returns-then-at-text-clause-read c = grind (arith, front, no_front)

pub returns-then-from-clause-read : goal.returns-then-from-clause-read
unfolding after_name
returns-then-from-clause-read c = grind (arith, front, no_front)

pub returns-then-b-eq94-clause-read : goal.returns-then-b-eq94-clause-read
unfolding after_name
returns-then-b-eq94-clause-read c = grind (arith, front, no_front)

pub returns-else-b-eq94-clause-read : goal.returns-else-b-eq94-clause-read
unfolding after_name
returns-else-b-eq94-clause-read c = grind (arith, front, no_front)
