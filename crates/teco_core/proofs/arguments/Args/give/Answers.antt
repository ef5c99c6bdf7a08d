use Rattle.std.proofs.Common.{arith}
use Rattle.std.proofs.lemmas.Grind.{common_steps}
use Rattle.teco_core.specs.Arguments.{give}
use Rattle.teco_core.specs.ArgumentsView.{arguments}
use Rattle.teco_core.proofs.arguments.Args.give.Goals as goal

pub returns-clause-ok : goal.returns-clause-ok
unfolding arguments give
returns-clause-ok c = grind (arith, common_steps)
