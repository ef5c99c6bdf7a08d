use Rattle.std.proofs.Common.{◌∙◌, ap, refl, rules, pos, sym, ◌+ℤ◌, FitsSigned, subst, w32}
use Rattle.std.proofs.lemmas.Int.{to_z-of_z}
use Rattle.teco_core.specs.Arguments.{give}
use Rattle.teco_core.specs.ArgumentsView.{arguments}
use Rattle.teco_core.specs.Number.{fitted}
use Rattle.teco_core.specs.Register.{content}
use Rattle.teco_store.specs.State.{with_register_number}
use Rattle.teco_step.specs.Families.{IsRefusal}
use Rattle.teco_step.specs.Registers.{adds}
use Rattle.teco_step.specs.Step.{goes}
use Rattle.teco_step.proofs.Acting.{acts_refused, acts_undone, goes_done, memory_why, refusal_after, refusal_made, refusal_then, then_ok}
use Rattle.teco_step.proofs.registers.add_one.Goals as goal

pub returns-in_err-sum : goal.returns-in_err-sum
returns-in_err-sum g c =
    let s = g.D.Desk.state c.args.desk.now in
    let fits : FitsSigned w32 c.number.result = search rules in
    let number = to_z-of_z w32 c.number.result fits ∙ c.number.ensures ∙ ap (λ rs. (content rs c.args.q).number) c.registers.ensures.value in
    let h = c.in_err-sum.field-0.0 in
    acts_refused (goes (adds c.args.q (pos 1))) s (arguments c.args.args.now) _ h c.from_residual.result c.from_residual.ensures.1
    (refusal_made h s _ (refusal_then h _ _ (subst (λ n. IsRefusal h (fitted (n +ℤ pos 1))) number c.in_err-sum.ensures)))

pub returns-in_err-left : goal.returns-in_err-left
returns-in_err-left g c =
    let s = g.D.Desk.state c.args.desk.now in
    let a = arguments c.args.args.now in
    let fits : FitsSigned w32 c.number.result = search rules in
    let number = to_z-of_z w32 c.number.result fits ∙ c.number.ensures ∙ ap (λ rs. (content rs c.args.q).number) c.registers.ensures.value in
    let sum = sym (ap (λ n. fitted (n +ℤ pos 1)) number) ∙ c.in_ok-sum.ensures in
    let same : FitsSigned w32 c.in_ok-sum.sum = search rules in
    let h = c.in_err-left.field-0.0 in
    acts_refused (goes (adds c.args.q (pos 1))) s a _ h c.from_residual-in_err-left.result c.from_residual-in_err-left.ensures.1
    (refusal_made h s _ (refusal_after h _ c.in_ok-sum.sum _ sum (refusal_then h _ _ (subst (λ n. IsRefusal h (give n a)) (to_z-of_z w32 c.in_ok-sum.sum same) c.in_err-left.ensures))))

pub returns-in_err-set_number : goal.returns-in_err-set_number
returns-in_err-set_number g c =
    let d = c.in_err-set_number.ensures in
    acts_undone (goes (adds c.args.q (pos 1))) (g.D.Desk.state c.args.desk.now) _ (arguments c.args.args.now) _ _ _ c.from_residual-in_err-set_number.result c.from_residual-in_err-set_number.ensures.1
    (memory_why _ _ d.only_memory) d.err d.keeps

pub returns : goal.returns
returns g c =
    let s = g.D.Desk.state c.args.desk.now in
    let a = arguments c.args.args.now in
    let q = c.args.q in
    let fits : FitsSigned w32 c.number.result = search rules in
    let number = to_z-of_z w32 c.number.result fits ∙ c.number.ensures ∙ ap (λ rs. (content rs q).number) c.registers.ensures.value in
    let sum = sym (ap (λ n. fitted (n +ℤ pos 1)) number) ∙ c.in_ok-sum.ensures in
    let fits_sum : FitsSigned w32 c.in_ok-sum.sum = search rules in
    let same = to_z-of_z w32 c.in_ok-sum.sum fits_sum in
    let given = sym (ap (λ n. give n a) same) ∙ c.in_ok-left.ensures in
    let done = c.in_ok-set_number.ensures in
    goes_done s (with_register_number s q c.in_ok-sum.sum) _ _ _ (adds q (pos 1) s a) 0 _ _ (then_ok _ _ _ _ sum (then_ok _ _ _ _ given refl))
    (done.ok ∙ ap (with_register_number s q) same) refl refl done.follows
