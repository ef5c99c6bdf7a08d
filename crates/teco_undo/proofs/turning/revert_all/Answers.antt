use Rattle.std.proofs.Common.{length, rules}
use Rattle.teco_undo.proofs.Entries.{comes_forth_again}
use Rattle.teco_undo.proofs.turning.revert_all.Goals as goal

pub returns : goal.returns
returns c =
    let e = c.args.editor.now in
    let again = comes_forth_again e.room (length e.stored) c.args.entry.now.items e.body c.requires c.shown-shown.ensures.sound in
    rw (c.revert_each.ensures.editor, c.revert_each.ensures.entry) (record {
      editor = search rules;
      entry = search rules;
      fits = again.fits;
      body_again = again.body;
      entry_again = again.notes;
      sound = again.sound;
      end = again.output;
    })
