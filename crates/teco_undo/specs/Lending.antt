-- An editor that is lent from its recorder.
use Rattle.std.specs.Borrow.{Lends, MutBor, Fml}
use Rattle.teco_undo.specs.Follows.{Recording}
use Rattle.teco_store.specs.State.{Full}
use Rattle.teco_store.specs.contracts.editor.Editor as Editor
use Rattle.teco_undo.specs.contracts.recorder.Recorder as Recorder

-- with this editor
abbrev pub with_full : Recording → Full → Recording
with_full r full = record r { full = full }

-- The recorder has the editor that is left behind the loan.
abbrev pub LendsEditor : MutBor Recording → MutBor Full → Fml
LendsEditor r loan = Lends Recorder.the_row Editor.the_row r loan (with_full r.now)
