use Rattle.std.proofs.Common.{refl, inr}
use Rattle.teco_core.specs.ArgumentsView.{arguments}
use Rattle.teco_step.specs.Editing.{insert_tab}
use Rattle.teco_step.specs.Step.{goes}
use Rattle.teco_step.proofs.Acting.{acts_refused, acts_undone, refusal_after, refusal_made, refusal_then}
use Rattle.teco_step.proofs.edit.insert_tab.Goals as goal

pub returns-in_err-taken : goal.returns-in_err-taken
returns-in_err-taken g c =
    let s = g.D.Desk.state c.args.desk.now in
    let a = arguments c.args.args.now in
    let h = c.in_err-taken.field-0.0 in
    acts_refused (goes (insert_tab c.args.text.now)) s a _ h c.from_residual.result c.from_residual.ensures.1 (refusal_made h s _ (refusal_then h _ _ c.in_err-taken.ensures))

pub returns-in_err-untaken : goal.returns-in_err-untaken
returns-in_err-untaken g c =
    let s = g.D.Desk.state c.args.desk.now in
    let a = arguments c.args.args.now in
    let h = c.in_err-untaken.field-0.0 in
    acts_refused (goes (insert_tab c.args.text.now)) s a _ h c.from_residual-in_err-untaken.result c.from_residual-in_err-untaken.ensures.1
    (refusal_made h s _ (refusal_after h _ c.in_ok-taken.field-0 _ c.in_ok-taken.ensures (refusal_then h _ _ c.in_err-untaken.ensures)))

pub returns-in_err-bytes : goal.returns-in_err-bytes
returns-in_err-bytes g c =
    let s = g.D.Desk.state c.args.desk.now in
    let a = arguments c.args.args.now in
    acts_undone (goes (insert_tab c.args.text.now)) s s a _ _ _ c.from_residual-in_err-bytes.result c.from_residual-in_err-bytes.ensures.1 (inr c.in_err-bytes.ensures.err) refl (λ t b. b)
