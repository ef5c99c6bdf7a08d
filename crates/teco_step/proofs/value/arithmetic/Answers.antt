use Rattle.std.proofs.Common.{ap, sym, refl, subst, ◌∙◌}
use Rattle.teco_core.specs.ArgumentsView.{arguments}
use Rattle.teco_step.specs.Families.{ActsFrom}
use Rattle.teco_step.specs.Step.{goes}
use Rattle.teco_step.specs.Values.{build, built}
use Rattle.teco_step.proofs.Acting.{acts_refused, refusal_made, refusal_then, scene_of}
use Rattle.teco_step.proofs.Own.{own_built}
use Rattle.teco_step.proofs.value.arithmetic.Goals as goal

pub returns-in_err-build-clause-does : goal.returns-in_err-build-clause-does
returns-in_err-build-clause-does g c =
    let s = g.D.Desk.state c.args.desk.now in
    let a = arguments c.args.args.now in
    let d = c.in_err-build.ensures in
    let e = sym (ap (λ z. built c.args.arithmetic z a) c.text_length.ensures.value) ∙ d.err in
    let F = g.D.Desk.follows c.args.desk.now in
    let does = goes (build c.args.arithmetic) in
    let refused = acts_refused does s a F _ c.from_residual.result c.from_residual.ensures.1
    (refusal_made _ s _ (refusal_then _ _ _ (record { code = _; is = refl; refused = e; own = own_built _ _ _ _ e }))) in
    subst (λ left. ActsFrom does (scene_of s a F) (scene_of s (arguments left) F) c.from_residual.result) (sym d.unchanged) refused
