use Rattle.std.proofs.Common.{ap, refl, [], ◌-◌}
use Rattle.teco_core.specs.ArgumentsView.{arguments}
use Rattle.teco_step.specs.Editing.{kill, puts, puts}
use Rattle.teco_step.specs.Families.{range_of}
use Rattle.teco_step.specs.Step.{goes, goes_on}
use Rattle.teco_step.proofs.Acting.{acts_as, acts_refused, refusal_made, refusal_then, then_ok}
use Rattle.teco_step.proofs.edit.kill.Goals as goal

pub returns-in_err-range : goal.returns-in_err-range
returns-in_err-range g c =
    let s = g.D.Desk.state c.args.desk.now in
    let a = arguments c.args.args.now in
    let h = c.in_err-range.field-0.0 in
    acts_refused (goes kill) s a _ h c.from_residual.result c.from_residual.ensures.1 (refusal_made h s _ (refusal_then h _ _ c.in_err-range.ensures.value))

pub returns : goal.returns
returns g c =
    let s = g.D.Desk.state c.args.desk.now in
    let a = arguments c.args.args.now in
    let range = c.in_ok-range.range in
    acts_as (goes kill) (goes (puts range.start (range.end - range.start) [])) s _ a _ _ _ c.put.result
    (ap (goes_on s) (then_ok _ (range_of range) _ _ c.in_ok-range.ensures.value refl)) c.put.ensures
