use Rattle.std.proofs.Common.{refl}
use Rattle.teco_core.specs.ArgumentsView.{arguments}
use Rattle.teco_step.specs.Searching.{search}
use Rattle.teco_step.specs.Step.{steers}
use Rattle.teco_step.proofs.Acting.{acts_undone, why_then}
use Rattle.teco_step.proofs.searching.search.Goals as goal

pub returns-in_err-end : goal.returns-in_err-end
returns-in_err-end g c =
    let s = g.D.Desk.state c.args.desk.now in
    let a = arguments c.args.args.now in
    acts_undone (steers (search c.args.text.now c.args.setting)) s s a _ _ _ c.from_residual.result c.from_residual.ensures.1 (why_then _ _ _ c.in_err-end.ensures.err) refl (λ t b. b)
