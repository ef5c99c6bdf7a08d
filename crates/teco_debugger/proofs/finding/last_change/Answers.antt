use Rattle.std.proofs.Common.{◌≡◌, ◌∙◌, ◌-◌, ◌<◌, Some, ap, false, get_or, length, sym, true, arith}
use Rattle.std.proofs.lemmas.List.{get_or_default}
use Rattle.teco_store.specs.Kinds.{kind_of}
use Rattle.teco_undo.specs.Listing.{no_note}
use Rattle.teco_store.specs.Turn.{Note}
use Rattle.teco_debugger.specs.Finding.{is_for}
use Rattle.teco_debugger.proofs.Findings.{found_here, last_change-none, none_here}
use Rattle.teco_debugger.proofs.finding.last_change.Goals as goal

pub loop-left-init : goal.loop-left-init
loop-left-init c = record { within = omega (arith, c.len-left.ensures); none_since = last_change-none c.args.part.now c.args.changes.now _ (omega (arith, c.len-left.ensures)) }

pub returns-then-is_for : goal.returns-then-is_for
returns-then-is_for c =
    let part = c.args.part.now in
    let i = c.loop-left.left - 1 in
    let within : i < length c.args.changes.now = omega arith in
    let note : Note = get_or c.args.changes.now i no_note in
    let here : is_for part (kind_of note.turn) ≡ true = ap (is_for part) (sym c.kind.ensures.kind) ∙ (sym c.is_for.ensures ∙ c.if-is_for.true) in
    sym (found_here part c.args.changes.now i c.loop-left.left note c.step.result within (get_or_default c.args.changes.now i note no_note within) (omega arith)
    c.loop-left.invariant.none_since (rw here (ap Some (sym c.step.ensures))))

pub loop-left-preserved : goal.loop-left-preserved
loop-left-preserved c =
    let part = c.args.part.now in
    let i = c.loop-left.left - 1 in
    let within : i < length c.args.changes.now = omega arith in
    let note : Note = get_or c.args.changes.now i no_note in
    let other : is_for part (kind_of note.turn) ≡ false = ap (is_for part) (sym c.kind.ensures.kind) ∙ (sym c.is_for.ensures ∙ c.if-is_for.false) in
    record {
      within = omega arith;
      none_since = none_here part c.args.changes.now i c.loop-left.left note within (get_or_default c.args.changes.now i note no_note within) (omega arith)
          c.loop-left.invariant.none_since (rw other);
    }
