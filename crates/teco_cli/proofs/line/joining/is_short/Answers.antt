use Rattle.std.proofs.Common.{arith}
use Rattle.std.proofs.lemmas.Grind.{common_steps}
use Rattle.teco_cli.proofs.line.joining.is_short.Goals as goal

pub returns-then-bytes-eq45 : goal.returns-then-bytes-eq45
returns-then-bytes-eq45 c = grind (arith, common_steps)
