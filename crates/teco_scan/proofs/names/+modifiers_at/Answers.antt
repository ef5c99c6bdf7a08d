use Rattle.std.proofs.Common.{arith}
use Rattle.teco_scan.specs.Scan.{modifiers_at}
use Rattle.teco_scan.proofs.Places.{front, no_front}
use Rattle.teco_scan.proofs.names.+modifiers_at.Goals as goal

pub returns-then-modifiers-clause-read : goal.returns-then-modifiers-clause-read
unfolding modifiers_at
returns-then-modifiers-clause-read t c = grind (arith, front, no_front)

pub returns-then-text-at-eq64-clause-read : goal.returns-then-text-at-eq64-clause-read
unfolding modifiers_at
returns-then-text-at-eq64-clause-read t c = grind (arith, front, no_front)

pub returns-then-modifiers-eq2-clause-read : goal.returns-then-modifiers-eq2-clause-read
unfolding modifiers_at
returns-then-modifiers-eq2-clause-read t c = grind (arith, front, no_front)

pub returns-then-text-at-eq58-clause-read : goal.returns-then-text-at-eq58-clause-read
unfolding modifiers_at
returns-then-text-at-eq58-clause-read t c = grind (arith, front)

pub returns-clause-read : goal.returns-clause-read
unfolding modifiers_at
returns-clause-read t c = grind (arith, front, no_front)
