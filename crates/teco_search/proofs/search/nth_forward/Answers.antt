use Rattle.std.proofs.Common.{arith}
use Rattle.std.proofs.lemmas.Grind.{common_steps}
use Rattle.teco_search.proofs.search.nth_forward.Goals as goal

pub wanted-preserved : goal.wanted-preserved
wanted-preserved g c = grind (arith, common_steps)
