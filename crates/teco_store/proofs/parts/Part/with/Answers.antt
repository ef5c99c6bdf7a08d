use Rattle.teco_store.proofs.Fronts.{both_lent_at}
use Rattle.teco_store.proofs.parts.Part.with.Goals as goal

pub returns-in-Lent-Lent : goal.returns-in-Lent-Lent
returns-in-Lent-Lent c = both_lent_at _ _ _ _ _ _ c.in-Lent-Lent.is-0 c.in-Lent-Lent.is-1 c.if-upto-at.true c.requires.ordered
