use Rattle.std.proofs.Common.{◌∙◌, ap}
use Rattle.teco_serve.specs.Explaining.{anew}
use Rattle.teco_serve.proofs.Showing.{lines_told}
use Rattle.teco_serve.proofs.listener.ExplainerListens.ended.Goals as goal

pub returns : goal.returns
returns g c = record { told = (c.anew-self.ensures ∙ ap anew c.tell.ensures.telling, lines_told c.line_of_end.result c.line_of_end.ensures c.tell.ensures.told) }
