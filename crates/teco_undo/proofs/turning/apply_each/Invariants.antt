use Rattle.std.proofs.Common.{◌≡◌, ◌++◌, take, drop, length}
use Rattle.teco_undo.specs.Entry.{body_forth, notes_forth, FitsForth}
use Rattle.teco_undo.proofs.turning.apply_each.Given as goal

abbrev pub invariant-loop-i : goal.invariant-loop-i
invariant-loop-i l =
    record {
      rest : drop l.i l.entry.items ≡ drop l.i l.initial.entry.items;
      whole : take l.i l.entry.items ++ notes_forth (drop l.i l.initial.entry.items) l.editor.body ≡ notes_forth l.initial.entry.items l.initial.editor.body;
      body : body_forth (drop l.i l.initial.entry.items) l.editor.body ≡ body_forth l.initial.entry.items l.initial.editor.body;
      fits : FitsForth l.initial.editor.room (length l.initial.editor.stored) (drop l.i l.initial.entry.items) l.editor.body;
      stored : l.editor.stored ≡ l.initial.editor.stored;
      room : l.editor.room ≡ l.initial.editor.room;
    }
