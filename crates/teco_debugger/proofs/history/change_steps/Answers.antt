use Rattle.std.proofs.Common.{◌≡◌, ◌∙◌, ◌-◌, ◌<◌, Some, ap, false, get_or, length, sym, true, arith}
use Rattle.std.proofs.lemmas.List.{get_or_default}
use Rattle.teco_store.specs.Kinds.{kind_of}
use Rattle.teco_store.specs.Turn.{Note}
use Rattle.teco_undo.specs.Listing.{no_note}
use Rattle.teco_debugger.specs.Finding.{is_for, step_before}
use Rattle.teco_debugger.proofs.Histories.{step_more, step_passed, steps-none}
use Rattle.teco_debugger.proofs.history.change_steps.Goals as goal

pub loop-left-init : goal.loop-left-init
loop-left-init c = record {
  within = omega (arith, c.len-left.ensures);
  listed = c.new-steps.ensures.items ∙ sym (steps-none c.args.part.now c.args.changes.now _ (omega (arith, c.len-left.ensures)));
}

pub loop-left-preserved-in-Continue-1 : goal.loop-left-preserved-in-Continue-1
loop-left-preserved-in-Continue-1 c =
    let part = c.args.part.now in
    let i = c.loop-left.left - 1 in
    let within : i < length c.args.changes.now = omega arith in
    let note : Note = get_or c.args.changes.now i no_note in
    let here : is_for part (kind_of note.turn) ≡ true = ap (is_for part) (sym c.kind.ensures.kind) ∙ (sym c.is_for.ensures ∙ c.if-is_for.true) in
    let found : step_before part note ≡ Some c.step.result = rw here (ap Some (sym c.step.ensures)) in
    record {
      within = omega arith;
      listed = c.in_ok-push.ensures.items
          ∙ step_more part c.args.changes.now i c.loop-left.left note c.step.result c.loop-left.steps.items within (get_or_default c.args.changes.now i note no_note within) (omega arith)
          c.loop-left.invariant.listed found;
    }

pub loop-left-preserved : goal.loop-left-preserved
loop-left-preserved c =
    let part = c.args.part.now in
    let i = c.loop-left.left - 1 in
    let within : i < length c.args.changes.now = omega arith in
    let note : Note = get_or c.args.changes.now i no_note in
    let other : is_for part (kind_of note.turn) ≡ false = ap (is_for part) (sym c.kind.ensures.kind) ∙ (sym c.is_for.ensures ∙ c.if-is_for.false) in
    record {
      within = omega arith;
      listed = step_passed part c.args.changes.now i c.loop-left.left note c.loop-left.steps.items within (get_or_default c.args.changes.now i note no_note within) (omega arith)
          c.loop-left.invariant.listed (rw other);
    }
