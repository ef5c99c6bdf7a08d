use Rattle.std.proofs.Common.{◌≡◌, ◌+◌, ◌-◌, set, get_or, ◌∙◌, ap, arith}
use Rattle.teco_undo.specs.Listing.{no_note}
use Rattle.teco_store.specs.State.{Body, Full}
use Rattle.teco_store.specs.Turn.{Note, full_after, note_after}
use Rattle.teco_undo.proofs.Turned.{OneBack, one_back_at, turns_fit, within_back}
use Rattle.teco_undo.proofs.turning.revert_each.Goals as goal

pub turn-requires-clause-within : goal.turn-requires-clause-within
turn-requires-clause-within c =
    let i : c.loop-i.i ≡ (c.loop-i.i - 1) + 1 = let h = c.loop-i-test.true in omega arith in
    let le = c.loop-i.invariant.within in
    within_back _ _ _ _ _ i (omega arith) c.loop-i.invariant.entry

pub turn-requires-clause-fits : goal.turn-requires-clause-fits
turn-requires-clause-fits c =
    let i : c.loop-i.i ≡ (c.loop-i.i - 1) + 1 = let h = c.loop-i-test.true in omega arith in
    let here = c.loop-i.invariant in
    let one = one_back_at c.args.entry.now.items c.loop-i.entry.items (c.loop-i.i - 1) c.loop-i.i c.args.editor.now.body i (omega arith) here.entry in
    turns_fit c.loop-i.editor c.args.editor.now _ _ here.editor c.shown-shown.ensures.sound (one.fits c.args.editor.now.room c.requires)

pub loop-i-preserved : goal.loop-i-preserved
loop-i-preserved c =
    let i : c.loop-i.i ≡ (c.loop-i.i - 1) + 1 = let h = c.loop-i-test.true in omega arith in
    let here = c.loop-i.invariant in
    let x : Note = get_or c.loop-i.entry.items (c.loop-i.i - 1) no_note in
    let one : OneBack c.args.entry.now.items c.loop-i.entry.items x (c.loop-i.i - 1) c.loop-i.i c.args.editor.now.body =
    one_back_at c.args.entry.now.items c.loop-i.entry.items (c.loop-i.i - 1) c.loop-i.i c.args.editor.now.body i (omega arith) here.entry in
    record {
      within = omega arith;
      editor = c.turn.ensures.editor ∙ ap (full_after x.turn) here.editor
          ∙ ap (λ (b : Body). let f : Full = record { body = b; stored = c.args.editor.now.stored; room = c.args.editor.now.room } in f) one.body;
      entry = c.turn.ensures.items ∙ ap (λ (f : Full). set c.loop-i.entry.items (c.loop-i.i - 1) (note_after x f.body)) here.editor ∙ one.notes;
    }
