use Rattle.std.proofs.Common.{◌∙◌, ap, refl, rules, sym, FitsSigned, w64}
use Rattle.std.proofs.lemmas.Int.{to_z-of_z}
use Rattle.teco_core.specs.declared.code.Code.TheVariants.{Pop}
use Rattle.teco_core.specs.ArgumentsView.{arguments}
use Rattle.teco_store.specs.State.{pointed}
use Rattle.teco_step.specs.Editing.{moves_to}
use Rattle.teco_step.specs.Step.{goes, goes_on, on, place_or}
use Rattle.teco_step.proofs.Acting.{acts_answered, then_ok}
use Rattle.teco_step.proofs.edit.move_to.Goals as goal

pub returns : goal.returns
returns g c =
    let s = g.D.Desk.state c.args.desk.now in
    let a = arguments c.args.args.now in
    let d = c.point.ensures in
    let place = c.in_ok-place.place in
    let fits : FitsSigned w64 c.args.place = search rules in
    let there = sym (ap (place_or Pop s) (to_z-of_z w64 c.args.place fits)) ∙ c.in_ok-place.ensures.value in
    acts_answered (goes (moves_to c.args.place)) s (pointed s place) _ a _ 0 on _ _ c.point.result _ c.done.result c.done.ensures.ok c.done.ensures.err d.ok d.err d.follows d.keeps
    (λ b. absurd (d.only_memory b))
    (λ e. ap (goes_on s) (then_ok _ place _ _ there refl)) refl refl
