use Rattle.std.proofs.Common.{rules}
use Rattle.teco_store.proofs.change.PartChange.turn.Goals as goal

pub returns-clause-editor : goal.returns-clause-editor
returns-clause-editor c = search rules

pub returns-clause-part : goal.returns-clause-part
returns-clause-part c = search rules
