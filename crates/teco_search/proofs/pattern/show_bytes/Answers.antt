use Rattle.std.proofs.Common.{arith}
use Rattle.std.proofs.lemmas.Grind.{common_steps}
use Rattle.teco_search.proofs.pattern.show_bytes.Goals as goal

pub bytes-preserved : goal.bytes-preserved
bytes-preserved g c = grind (arith, common_steps)
