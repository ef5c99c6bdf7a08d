use Rattle.std.proofs.Common.{◌≡◌, ℕ, ◌+◌, ◌-◌, ◌<◌, ◌≤◌, List, get_or, sym, ◌∙◌, ap, subst, arith}
use Rattle.std.proofs.lemmas.List.{get_or_default}
use Rattle.teco_undo.specs.Listing.{no_note}
use Rattle.teco_store.specs.State.{Body, Full}
use Rattle.teco_store.specs.Turn.{Note, full_after, note_after}
use Rattle.teco_undo.specs.Entry.{body_back}
use Rattle.teco_undo.proofs.Turned.{one_back_taken, popped, read_taken, turns_fit, within_taken}
use Rattle.teco_undo.proofs.Cuts.{IsCut, cut_at, late_at}
use Rattle.teco_undo.proofs.turning.rewind.Goals as goal

pub step-requires : goal.step-requires
step-requires c =
    let i : c.loop-kept.kept ≡ (c.loop-kept.kept - 1) + 1 = let h = c.loop-kept-test.true in omega arith in
    let le = c.loop-kept.invariant.within in
    within_taken _ _ _ _ i (omega arith) c.loop-kept.invariant.entry

pub turn-requires-clause-within : goal.turn-requires-clause-within
turn-requires-clause-within c =
    let i : c.loop-kept.kept ≡ (c.loop-kept.kept - 1) + 1 = let h = c.loop-kept-test.true in omega arith in
    let le = c.loop-kept.invariant.within in
    within_taken _ _ _ _ i (omega arith) c.loop-kept.invariant.entry

pub turn-requires-clause-fits : goal.turn-requires-clause-fits
turn-requires-clause-fits c =
    let i : c.loop-kept.kept ≡ (c.loop-kept.kept - 1) + 1 = let h = c.loop-kept-test.true in omega arith in
    let here = c.loop-kept.invariant in
    let one = one_back_taken c.args.entry.now.items c.loop-kept.entry.items (c.loop-kept.kept - 1) c.loop-kept.kept c.args.editor.now.body i (omega arith) here.entry in
    turns_fit c.loop-kept.editor c.args.editor.now _ _ here.editor c.shown-shown.ensures.sound (one.fits c.args.editor.now.room c.requires.fits)

pub loop-kept-preserved : goal.loop-kept-preserved
loop-kept-preserved c =
    let i : c.loop-kept.kept ≡ (c.loop-kept.kept - 1) + 1 = let h = c.loop-kept-test.true in omega arith in
    let here = c.loop-kept.invariant in
    let xs = c.args.entry.now.items in
    let x : Note = get_or c.loop-kept.entry.items (c.loop-kept.kept - 1) no_note in
    let one = one_back_taken xs c.loop-kept.entry.items (c.loop-kept.kept - 1) c.loop-kept.kept c.args.editor.now.body i (omega arith) here.entry in
    let read : x ≡ get_or xs (c.loop-kept.kept - 1) no_note = read_taken xs c.loop-kept.entry.items (c.loop-kept.kept - 1) c.loop-kept.kept i (omega arith) here.entry in
    let late : c.args.steps ≤ x.step = let h = c.if-step-steps.false in let e = c.step.ensures in omega arith in
    record {
      within = omega arith;
      editor = c.turn.ensures.editor ∙ ap (full_after x.turn) here.editor
          ∙ ap (λ (b : Body). let f : Full = record { body = b; stored = c.args.editor.now.stored; room = c.args.editor.now.room } in f) one.body;
      entry = popped xs c.loop-kept.entry.items c.turn.new.self.items c.pop.new.self.items c.pop.result (note_after x c.loop-kept.editor.body) (c.loop-kept.kept - 1) c.loop-kept.kept i (omega arith) here.entry
          c.turn.ensures.items c.pop.ensures.items c.pop.ensures.variant.1;
      later = late_at c.args.steps xs x (c.loop-kept.kept - 1) (omega arith) (read ∙ get_or_default xs (c.loop-kept.kept - 1) no_note x (omega arith)) late;
    }

-- all of them were made after the steps
all_cut : (c : goal.After-loop-kept) → IsCut c.args.steps c.loop-kept.kept c.args.entry.now.items
all_cut c =
    let here = c.loop-kept.invariant in
    let none = c.loop-kept-test.false in
    cut_at c.args.steps 0 c.requires.order.0 c.loop-kept.kept c.args.entry.now.items no_note c.requires.order.1 here.within (λ k e. absurd (omega arith)) here.later

pub returns-after-loop-kept : goal.returns-after-loop-kept
returns-after-loop-kept c =
    let here = c.loop-kept.invariant in
    let cut = all_cut c in
    record {
      editor = here.editor ∙ ap (λ (xs : List Note). let x : Full = record { body = body_back xs c.args.editor.now.body; stored = c.args.editor.now.stored; room = c.args.editor.now.room } in x) (sym cut.since);
      entry = here.entry ∙ sym cut.before;
    }

-- the place at which the run of changes made in the first steps ends
here_cut : (c : goal.Then-step-steps) → IsCut c.args.steps c.loop-kept.kept c.args.entry.now.items
here_cut c =
    let here = c.loop-kept.invariant in
    let xs = c.args.entry.now.items in
    let i : c.loop-kept.kept ≡ (c.loop-kept.kept - 1) + 1 = let h = c.loop-kept-test.true in omega arith in
    let read = read_taken xs c.loop-kept.entry.items (c.loop-kept.kept - 1) c.loop-kept.kept i (omega arith) here.entry in
    let early : (get_or c.loop-kept.entry.items (c.loop-kept.kept - 1) no_note).step < c.args.steps = let h = c.if-step-steps.true in let e = c.step.ensures in omega arith in
    let last : (get_or xs (c.loop-kept.kept - 1) no_note).step < c.args.steps = subst (λ (x : Note). x.step < c.args.steps) read early in
    cut_at c.args.steps 0 c.requires.order.0 c.loop-kept.kept xs no_note c.requires.order.1 here.within
    (λ k e. subst (λ (j : ℕ). (get_or xs j no_note).step < c.args.steps) (let n : c.loop-kept.kept - 1 ≡ k = omega arith in n) last) here.later

pub returns-then-step-steps : goal.returns-then-step-steps
returns-then-step-steps c =
    let here = c.loop-kept.invariant in
    let cut = here_cut c in
    record {
      editor = here.editor ∙ ap (λ (xs : List Note). let x : Full = record { body = body_back xs c.args.editor.now.body; stored = c.args.editor.now.stored; room = c.args.editor.now.room } in x) (sym cut.since);
      entry = here.entry ∙ sym cut.before;
    }
