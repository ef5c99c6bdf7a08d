use Rattle.std.proofs.Common.{arith}
use Rattle.std.proofs.lemmas.Grind.{common_steps}
use Rattle.teco_debugger.specs.Showing.{mark_shown}
use Rattle.teco_debugger.proofs.showing.show_mark.Goals as goal

pub returns : goal.returns
unfolding mark_shown
returns c = grind (arith, common_steps)
