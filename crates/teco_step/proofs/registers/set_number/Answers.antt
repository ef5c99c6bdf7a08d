use Rattle.std.proofs.Common.{◌∙◌, ap, refl, rules, FitsSigned, Ok, w32, sym}
use Rattle.std.proofs.lemmas.Int.{to_z-of_z}
use Rattle.teco_core.specs.ArgumentsView.{arguments}
use Rattle.teco_core.specs.declared.arguments.Taken.TheVariants.{One}
use Rattle.teco_store.specs.State.{with_register_number}
use Rattle.teco_step.specs.Registers.{set_number}
use Rattle.teco_step.specs.Step.{goes, on, goes_on, changes}
use Rattle.teco_step.proofs.Acting.{acts_refused, refusal_made, refusal_then, then_ok, acts_answered}
use Rattle.teco_step.proofs.registers.set_number.Goals as goal

pub returns-in_err-taken : goal.returns-in_err-taken
returns-in_err-taken g c =
    let s = g.D.Desk.state c.args.desk.now in
    let a = arguments c.args.args.now in
    let h = c.in_err-taken.field-0.0 in
    acts_refused (goes (set_number c.args.q)) s a _ h c.from_residual.result c.from_residual.ensures.1 (refusal_made h s _ (refusal_then h _ _ c.in_err-taken.ensures))

pub returns-in-One : goal.returns-in-One
returns-in-One g c =
    let s = g.D.Desk.state c.args.desk.now in
    let a = arguments c.args.args.now in
    let fits : FitsSigned w32 c.in-One.n = search rules in
    let n = to_z-of_z w32 c.in-One.n fits in
    let d = c.set_number.ensures in
    acts_answered (goes (set_number c.args.q)) s _ _ a _ 0 on _ _ c.set_number.result _ c.done.result c.done.ensures.ok c.done.ensures.err d.ok d.err d.follows d.keeps
    (λ b. absurd (d.only_memory b))
    (λ e. ap (goes_on s) (then_ok _ (One c.in-One.n) _ _ (c.in_ok-taken.ensures ∙ ap Ok c.in-One.is) (ap (λ n. changes (with_register_number s c.args.q n) 0) (sym n)))) refl refl
