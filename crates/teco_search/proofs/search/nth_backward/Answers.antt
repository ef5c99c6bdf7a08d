use Rattle.std.proofs.Common.{arith}
use Rattle.std.proofs.lemmas.Grind.{common_steps}
use Rattle.teco_search.proofs.search.nth_backward.Goals as goal

pub last_by_start-requires-clause-ready : goal.last_by_start-requires-clause-ready
last_by_start-requires-clause-ready g c = grind (arith, common_steps)

pub last_by_start-requires-clause-within : goal.last_by_start-requires-clause-within
last_by_start-requires-clause-within g c = grind (arith, common_steps)

pub last_by_end-requires-clause-ready : goal.last_by_end-requires-clause-ready
last_by_end-requires-clause-ready g c = grind (arith, common_steps)

pub last_by_end-requires-clause-within : goal.last_by_end-requires-clause-within
last_by_end-requires-clause-within g c = grind (arith, common_steps)

pub skipped-preserved : goal.skipped-preserved
skipped-preserved g c = grind (arith, common_steps)

pub returns : goal.returns
returns g c = grind (arith, common_steps)
