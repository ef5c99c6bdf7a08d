use Rattle.std.proofs.Common.{◌∙◌, ap, sym, refl, rules, FitsSigned, subst, w32}
use Rattle.std.proofs.lemmas.Int.{to_z-of_z}
use Rattle.teco_core.specs.ArgumentsView.{arguments}
use Rattle.teco_store.specs.State.{with_case}
use Rattle.teco_step.specs.Families.{IsRefusal}
use Rattle.teco_step.specs.Step.{goes, on, goes_on}
use Rattle.teco_step.proofs.Acting.{acts_refused, refusal_after, refusal_made, refusal_then, then_ok, acts_answered}
use Rattle.teco_step.specs.Case.{mode_of, set_case}
use Rattle.teco_step.proofs.case.set_case.Goals as goal

pub returns-in_err-takes_one : goal.returns-in_err-takes_one
returns-in_err-takes_one g c =
    let s = g.D.Desk.state c.args.desk.now in
    let a = arguments c.args.args.now in
    let h = c.in_err-takes_one.field-0.0 in
    acts_refused (goes set_case) s a _ h c.from_residual.result c.from_residual.ensures.1 (refusal_made h s _ (refusal_then h _ _ c.in_err-takes_one.ensures))

pub returns-in_err-mode : goal.returns-in_err-mode
returns-in_err-mode g c =
    let s = g.D.Desk.state c.args.desk.now in
    let a = arguments c.args.args.now in
    let fits : FitsSigned w32 c.in_ok-takes_one.field-0 = search rules in
    let n = to_z-of_z w32 c.in_ok-takes_one.field-0 fits in
    let h = c.in_err-mode.field-0.0 in
    acts_refused (goes set_case) s a _ h c.from_residual-in_err-mode.result c.from_residual-in_err-mode.ensures.1
    (refusal_made h s _ (refusal_after h _ c.in_ok-takes_one.field-0 _ c.in_ok-takes_one.ensures (refusal_then h _ _ (subst (λ n. IsRefusal h (mode_of n)) n c.in_err-mode.ensures))))

pub returns : goal.returns
returns g c =
    let s = g.D.Desk.state c.args.desk.now in
    let a = arguments c.args.args.now in
    let fits : FitsSigned w32 c.in_ok-takes_one.field-0 = search rules in
    let n = to_z-of_z w32 c.in_ok-takes_one.field-0 fits in
    let mode = sym (ap mode_of n) ∙ c.in_ok-mode.ensures in
    let d = c.set_case.ensures in
    acts_answered (goes set_case) s (with_case s c.in_ok-mode.mode) _ a _ 0 on _ _ c.set_case.result _ c.done.result c.done.ensures.ok c.done.ensures.err d.ok d.err d.follows d.keeps
    (λ b. absurd (d.only_memory b))
    (λ e. ap (goes_on s) (then_ok _ c.in_ok-takes_one.field-0 _ _ c.in_ok-takes_one.ensures (then_ok _ c.in_ok-mode.mode _ _ mode refl))) refl refl
