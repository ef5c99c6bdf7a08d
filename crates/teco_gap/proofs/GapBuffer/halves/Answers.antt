use Rattle.std.proofs.Common.{arith}
use Rattle.std.proofs.lemmas.Grind.{common_steps}
use Rattle.teco_gap.proofs.GapBuffer.halves.Goals as goal

pub returns-in-Some-clause-after : goal.returns-in-Some-clause-after
returns-in-Some-clause-after c = grind (arith, common_steps)

pub slice_bounds-result-end-in-Some : goal.slice_bounds-result-end-in-Some
slice_bounds-result-end-in-Some c = grind (arith, common_steps)
