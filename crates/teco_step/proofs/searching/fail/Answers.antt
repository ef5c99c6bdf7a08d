use Rattle.std.proofs.Common.{ap, sym, false, []}
use Rattle.teco_core.specs.ArgumentsView.{arguments}
use Rattle.teco_step.specs.Searching.{answers, fails, notes}
use Rattle.teco_step.specs.Step.{End, steers}
use Rattle.teco_step.specs.Ending.{end_of}
use Rattle.teco_step.proofs.Acting.{acts_as}
use Rattle.teco_step.proofs.searching.fail.Goals as goal

pub returns : goal.returns
returns g c =
    let s = g.D.Desk.state c.args.desk.now in
    let a = arguments c.args.args.now in
    let text = c.args.text.now in
    let w = c.args.setting in
    acts_as (steers (fails text w)) (steers (λ s x. notes text false 0 (answers w false) (end_of s [] c.after_failing.result) s)) s _ a _ _ _ c.note.result
    (ap (λ (e : End). notes text false 0 (answers w false) e s) (sym (c.after_failing.ensures.leads s))) c.note.ensures
