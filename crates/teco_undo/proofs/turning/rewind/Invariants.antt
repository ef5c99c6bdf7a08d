use Rattle.std.proofs.Common.{◌≡◌, ◌≤◌, [], take, drop, length}
use Rattle.teco_undo.specs.Entry.{body_back, before}
use Rattle.teco_undo.proofs.turning.rewind.Given as goal

-- The changes from the place on are turned back, and gone, and the first of them is not before the steps.
abbrev pub invariant-loop-kept : goal.invariant-loop-kept
invariant-loop-kept l =
    record {
      within : l.kept ≤ length l.initial.entry.items;
      editor : l.editor ≡ record { body = body_back (drop l.kept l.initial.entry.items) l.initial.editor.body; stored = l.initial.editor.stored; room = l.initial.editor.room };
      entry : l.entry.items ≡ take l.kept l.initial.entry.items;
      later : before l.steps (drop l.kept l.initial.entry.items) ≡ [];
    }

abbrev pub decreases-loop-kept : goal.decreases-loop-kept
decreases-loop-kept l = l.kept
