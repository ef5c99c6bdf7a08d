use Rattle.std.proofs.Common.{◌∙◌, ap}
use Rattle.teco_debugger.specs.Sources.{number_at}
use Rattle.teco_debugger.proofs.sources.number_of_place.Goals as goal

pub returns-in-Some : goal.returns-in-Some
returns-in-Some c = rw c.in-Some.is (c.number_at.ensures ∙ ap (number_at c.args.sources.now) c.outermost_place.ensures)
