use Rattle.std.proofs.Common.{refl}
use Rattle.teco_core.specs.ArgumentsView.{arguments}
use Rattle.teco_step.specs.Searching.{compare}
use Rattle.teco_step.specs.Step.{steers}
use Rattle.teco_step.proofs.Acting.{acts_refused, acts_undone, refusal_then, why_then, why_after}
use Rattle.teco_step.proofs.searching.compare.Goals as goal

pub returns-in_err-takes_none : goal.returns-in_err-takes_none
returns-in_err-takes_none g c =
    let s = g.D.Desk.state c.args.desk.now in
    let a = arguments c.args.args.now in
    let h = c.in_err-takes_none.field-0.0 in
    acts_refused (steers (compare c.args.text.now)) s a _ h c.from_residual.result c.from_residual.ensures.1 (refusal_then h _ _ c.in_err-takes_none.ensures)

pub returns-in_err-end : goal.returns-in_err-end
returns-in_err-end g c =
    let s = g.D.Desk.state c.args.desk.now in
    let a = arguments c.args.args.now in
    acts_undone (steers (compare c.args.text.now)) s s a _ _ _ c.from_residual-in_err-end.result c.from_residual-in_err-end.ensures.1 (why_after _ _ tt _ c.in_ok-takes_none.ensures (why_then _ _ _ c.in_err-end.ensures.err)) refl (λ t b. b)
