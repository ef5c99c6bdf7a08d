use Rattle.std.proofs.Common.{◌≡◌, ◌≤◌, ◌++◌, take, drop, length}
use Rattle.teco_undo.specs.Entry.{body_back, notes_back}
use Rattle.teco_undo.proofs.turning.revert_each.Given as goal

abbrev pub invariant-loop-i : goal.invariant-loop-i
invariant-loop-i l =
    record {
      within : l.i ≤ length l.initial.entry.items;
      editor : l.editor ≡ record { body = body_back (drop l.i l.initial.entry.items) l.initial.editor.body; stored = l.initial.editor.stored; room = l.initial.editor.room };
      entry : l.entry.items ≡ take l.i l.initial.entry.items ++ notes_back (drop l.i l.initial.entry.items) l.initial.editor.body;
    }

abbrev pub decreases-loop-i : goal.decreases-loop-i
decreases-loop-i l = l.i
