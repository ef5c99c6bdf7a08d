use Rattle.std.proofs.Common.{rules}
use Rattle.teco_store.proofs.editor.Editor.put_lent.Goals as goal

pub returns-clause-kind : goal.returns-clause-kind
returns-clause-kind c = search rules
