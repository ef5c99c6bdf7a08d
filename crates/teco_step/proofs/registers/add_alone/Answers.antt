use Rattle.std.proofs.Common.{ap₂, ◌∙◌, ap, sym, refl, rules, ◌+ℤ◌, FitsSigned, subst, w32}
use Rattle.std.proofs.lemmas.Int.{to_z-of_z}
use Rattle.teco_core.specs.Arguments.{give, emptied}
use Rattle.teco_core.specs.ArgumentsView.{arguments}
use Rattle.teco_core.specs.Number.{fitted}
use Rattle.teco_core.specs.Register.{content}
use Rattle.teco_store.specs.State.{with_register_number}
use Rattle.teco_step.specs.Families.{IsRefusal}
use Rattle.teco_step.specs.Registers.{adds_alone}
use Rattle.teco_step.specs.Step.{goes}
use Rattle.teco_step.proofs.Acting.{acts_refused, acts_undone, goes_done, memory_why, refusal_made, refusal_then, then_ok}
use Rattle.teco_step.proofs.registers.add_alone.Goals as goal

pub returns-in_err-sum : goal.returns-in_err-sum
returns-in_err-sum g c =
    let s = g.D.Desk.state c.args.desk.now in
    let a = arguments c.args.args.now in
    let fits : FitsSigned w32 c.number.result = search rules in
    let m = to_z-of_z w32 c.number.result fits ∙ c.number.ensures ∙ ap (λ rs. (content rs c.args.q).number) c.registers.ensures.value in
    let same = ap₂ (λ m n. fitted (m +ℤ n)) m (to_z-of_z w32 c.args.n c.ranges.n) in
    let h = c.in_err-sum.field-0.0 in
    acts_refused (goes (adds_alone c.args.q c.args.n)) s a _ h c.from_residual.result c.from_residual.ensures.1 (refusal_made h s _ (refusal_then h _ _ (subst (λ r. IsRefusal h r) same c.in_err-sum.ensures)))

pub returns-in_err-set_number : goal.returns-in_err-set_number
returns-in_err-set_number g c =
    let s = g.D.Desk.state c.args.desk.now in
    let a = arguments c.args.args.now in
    let d = c.in_err-set_number.ensures in
    acts_undone (goes (adds_alone c.args.q c.args.n)) s _ a _ _ _ c.from_residual-in_err-set_number.result c.from_residual-in_err-set_number.ensures.1
    (memory_why _ _ d.only_memory) d.err d.keeps

pub returns : goal.returns
returns g c =
    let s = g.D.Desk.state c.args.desk.now in
    let a = arguments c.args.args.now in
    let fits : FitsSigned w32 c.number.result = search rules in
    let m = to_z-of_z w32 c.number.result fits ∙ c.number.ensures ∙ ap (λ rs. (content rs c.args.q).number) c.registers.ensures.value in
    let same = ap₂ (λ m n. fitted (m +ℤ n)) m (to_z-of_z w32 c.args.n c.ranges.n) in
    let sum = sym same ∙ c.in_ok-sum.ensures in
    let fits_sum : FitsSigned w32 c.in_ok-sum.sum = search rules in
    let n = to_z-of_z w32 c.in_ok-sum.sum fits_sum in
    let given = sym (ap (λ n. give n (emptied a)) n) ∙ c.give_alone.ensures in
    let done = c.in_ok-set_number.ensures in
    goes_done s (with_register_number s c.args.q c.in_ok-sum.sum) _ _ _ (adds_alone c.args.q c.args.n s a) 0 _ _ (then_ok _ _ _ _ sum (then_ok _ _ _ _ given refl))
    (done.ok ∙ ap (with_register_number s c.args.q) n) refl refl done.follows
