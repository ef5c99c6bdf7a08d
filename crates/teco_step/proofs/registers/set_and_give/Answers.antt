use Rattle.std.proofs.Common.{◌∙◌, ap, refl, rules, sym, FitsSigned, w32}
use Rattle.std.proofs.lemmas.Int.{to_z-of_z}
use Rattle.teco_core.specs.Arguments.{emptied, give}
use Rattle.teco_core.specs.ArgumentsView.{arguments}
use Rattle.teco_core.specs.declared.arguments.Taken.TheVariants.{Two}
use Rattle.teco_store.specs.State.{with_register_number}
use Rattle.teco_step.specs.Registers.{sets_number}
use Rattle.teco_step.specs.Step.{alone}
use Rattle.teco_step.proofs.Acting.{goes_done}
use Rattle.teco_step.proofs.Bytes.{given_alone}
use Rattle.teco_step.proofs.registers.set_and_give.Goals as goal

pub returns-in_ok-set_number-in-Wide : goal.returns-in_ok-set_number-in-Wide
returns-in_ok-set_number-in-Wide g c =
    let s = g.D.Desk.state c.args.desk.now in
    let q = c.args.q in
    let m = to_z-of_z w32 c.args.m c.ranges.m in
    let n = to_z-of_z w32 c.args.n c.ranges.n in
    let wide = sym c.profile.ensures ∙ c.in-Wide.is in
    let given = sym (ap (λ a. give c.args.m (emptied a)) c.clear.ensures) ∙ sym (ap (λ m. give m (emptied (arguments c.clear.new.self))) m) ∙ c.give_alone.ensures in
    let done = c.in_ok-set_number-in-Wide.ensures in
    goes_done s (with_register_number s q c.args.n) _ (alone c.args.m) _ _ 0 _ _ (ap (λ p. sets_number p q (Two c.args.m c.args.n) s) wide)
    (done.ok ∙ ap (with_register_number s q) n) (given_alone c.args.m _ given) refl done.follows
