use Rattle.std.proofs.Common.{rules}
use Rattle.teco_session.proofs.changes.Changes.rewind.Goals as goal

pub returns-in-Many-clause-editor : goal.returns-in-Many-clause-editor
returns-in-Many-clause-editor c = search rules

pub returns-in-Many-clause-changes : goal.returns-in-Many-clause-changes
returns-in-Many-clause-changes c = search rules
