use Rattle.std.proofs.Common.{rules}
use Rattle.teco_store.proofs.editor.Editor.put_small.Goals as goal

pub returns-in-Pages-clause-editor : goal.returns-in-Pages-clause-editor
returns-in-Pages-clause-editor c = search rules
