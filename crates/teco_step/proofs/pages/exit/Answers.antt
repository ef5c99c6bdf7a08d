use Rattle.std.proofs.Common.{refl, length}
use Rattle.teco_core.specs.ArgumentsView.{arguments}
use Rattle.teco_core.specs.declared.limits.TheConstants.{FILE_LIMIT}
use Rattle.teco_store.specs.Page.{finished}
use Rattle.teco_step.specs.Pages.{exit}
use Rattle.teco_step.specs.Step.{out, steers}
use Rattle.teco_step.proofs.Acting.{acts_refused, if_over, if_within, refusal_then, then_not, then_ok, within_by, acts_answered}
use Rattle.teco_step.proofs.pages.exit.Goals as goal

pub returns-in_err-takes_none : goal.returns-in_err-takes_none
returns-in_err-takes_none g c =
    let s = g.D.Desk.state c.args.desk.now in
    let a = arguments c.args.args.now in
    let h = c.in_err-takes_none.field-0.0 in
    acts_refused (steers exit) s a _ h c.from_residual.result c.from_residual.ensures.1 (refusal_then h _ _ c.in_err-takes_none.ensures)

pub returns : goal.returns
returns g c =
    let s = g.D.Desk.state c.args.desk.now in
    let a = arguments c.args.args.now in
    let d = c.finish.ensures in
    acts_answered (steers exit) s (finished s) _ a _ (length s.text) out _ _ c.finish.result _ c.done.result c.done.ensures.ok c.done.ensures.err d.ok d.err d.follows d.keeps
    (λ b. then_ok _ tt _ _ c.in_ok-takes_none.ensures (then_not _ _ _ (if_over (length (finished s).output) FILE_LIMIT _ (d.big.0 b))))
    (λ e. then_ok _ tt _ _ c.in_ok-takes_none.ensures (then_ok _ (finished s) _ _ (if_within (length (finished s).output) FILE_LIMIT _ (within_by (length (finished s).output) FILE_LIMIT _ d.big.1 e)) refl)) refl refl
