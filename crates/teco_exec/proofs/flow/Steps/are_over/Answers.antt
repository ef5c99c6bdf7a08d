use Rattle.std.proofs.Common.{inr, subst}
use Rattle.teco_exec.proofs.flow.Steps.are_over.Goals as goal

pub returns-else-self-clause-over : goal.returns-else-self-clause-over
returns-else-self-clause-over g c stops = inr (subst ((g.S.Stop.answered c.asks.new.self).said c.args.self.now.done) stops c.asks.ensures.answers)

pub returns-else-self-clause-lets : goal.returns-else-self-clause-lets
returns-else-self-clause-lets g c goes = subst ((g.S.Stop.answered c.asks.new.self).said c.args.self.now.done) goes c.asks.ensures.answers
