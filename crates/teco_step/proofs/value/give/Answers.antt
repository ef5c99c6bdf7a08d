use Rattle.std.proofs.Common.{sym, refl, rules, FitsSigned, subst, w32}
use Rattle.std.proofs.lemmas.Int.{to_z-of_z}
use Rattle.teco_core.specs.ArgumentsView.{arguments}
use Rattle.teco_step.specs.Families.{ActsFrom}
use Rattle.teco_step.specs.Step.{gives, goes}
use Rattle.teco_step.proofs.Acting.{acts_refused, refusal_made, refusal_then, scene_of}
use Rattle.teco_step.proofs.Own.{own_given_value}
use Rattle.teco_step.proofs.value.give.Goals as goal

pub returns-in_err-give-clause-does : goal.returns-in_err-give-clause-does
returns-in_err-give-clause-does g c =
    let s = g.D.Desk.state c.args.desk.now in
    let a = arguments c.args.args.now in
    let fits : FitsSigned w32 c.args.value = search rules in
    let d = c.in_err-give.ensures in
    let e = rw (to_z-of_z w32 c.args.value fits) at d.err in
    let F = g.D.Desk.follows c.args.desk.now in
    let does = goes (λ s a. gives s a c.args.value) in
    let refused = acts_refused does s a F _ c.from_residual.result c.from_residual.ensures.1
    (refusal_made _ s _ (refusal_then _ _ _ (record { code = _; is = refl; refused = e; own = own_given_value _ _ _ e }))) in
    subst (λ left. ActsFrom does (scene_of s a F) (scene_of s (arguments left) F) c.from_residual.result) (sym d.unchanged) refused
