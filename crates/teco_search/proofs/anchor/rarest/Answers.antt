use Rattle.std.proofs.Common.{arith}
use Rattle.std.proofs.lemmas.Grind.{elements}
use Rattle.teco_search.proofs.anchor.rarest.Goals as goal

pub offsets-preserved : goal.offsets-preserved
offsets-preserved c = grind (arith, elements)
