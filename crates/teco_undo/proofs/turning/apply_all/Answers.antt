use Rattle.std.proofs.Common.{length, rules}
use Rattle.teco_undo.proofs.Entries.{comes_back_again}
use Rattle.teco_undo.proofs.turning.apply_all.Goals as goal

pub returns : goal.returns
returns c =
    let e = c.args.editor.now in
    let again = comes_back_again e.room (length e.stored) c.args.entry.now.items e.body c.requires c.shown-shown.ensures.sound in
    rw (c.apply_each.ensures.editor, c.apply_each.ensures.entry) (record {
      editor = search rules;
      entry = search rules;
      fits = again.fits;
      body_again = again.body;
      entry_again = again.notes;
      sound = again.sound;
      end = again.output;
    })
