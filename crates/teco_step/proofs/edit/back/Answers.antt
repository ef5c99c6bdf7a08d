use Rattle.std.proofs.Common.{◌≡◌, ap, sym, ℤ, pos, ◌-ℤ◌, Result, Ok, FitsSigned, arith, rules, to_z, of_z, w32, w64}
use Rattle.std.proofs.lemmas.Int.{ints}
use Rattle.teco_core.specs.Arguments.{Arguments}
use Rattle.teco_core.specs.ArgumentsView.{arguments}
use Rattle.teco_store.specs.State.{State}
use Rattle.teco_store.specs.Trail.{Trail}
use Rattle.teco_step.specs.Editing.{back, moves_to}
use Rattle.teco_step.specs.Families.{ActsFrom}
use Rattle.teco_step.specs.Step.{goes, goes_on, takes_one_or}
use Rattle.teco_step.specs.declared.failure.Failure.{Failure}
use Rattle.teco_step.specs.declared.next.Next.{Next}
use Rattle.teco_step.proofs.Acting.{acts_as, acts_refused, refusal_made, refusal_then, scene_of, then_ok}
use Rattle.teco_step.proofs.edit.back.Goals as goal

-- A move to the place that is meant is the step.
back_by : (s new : State) (a left : Arguments) (F G : Trail → Type 0) (n place : ℤ) (r : Result Next Failure)
    → ActsFrom (goes (moves_to place)) (scene_of s a F) (scene_of new left G) r → takes_one_or (pos 1) a ≡ Ok n → place ≡ pos s.pointer -ℤ n
    → ActsFrom (goes back) (scene_of s a F) (scene_of new left G) r
back_by s new a left F G n place r d taken same =
    acts_as (goes back) (goes (moves_to place)) s new a left F G r (ap (goes_on s) (then_ok _ n _ _ taken (ap (λ p. moves_to p s a) (sym same)))) d

pub returns-in_err-n : goal.returns-in_err-n
returns-in_err-n g c =
    let s = g.D.Desk.state c.args.desk.now in
    let a = arguments c.args.args.now in
    let h = c.in_err-n.field-0.0 in
    acts_refused (goes back) s a _ h c.from_residual.result c.from_residual.ensures.1 (refusal_made h s _ (refusal_then h _ _ c.in_err-n.ensures))

pub overflow_sub-place : goal.overflow_sub-place
overflow_sub-place g c =
    let fits : FitsSigned w32 c.in_ok-n.n = search rules in
    search (arith, ints, c.pointer.ensures)

pub overflow_cast-place : goal.overflow_cast-place
overflow_cast-place g c = search (arith, ints, c.pointer.ensures)

pub returns : goal.returns
returns g c =
    let s = g.D.Desk.state c.args.desk.now in
    let n = c.in_ok-n.n in
    let fits : FitsSigned w32 n = search rules in
    let there = c.pointer.ensures.value in
    let small = c.pointer.ensures.small in
    let from = c.from.ensures in
    let place = to_z w64 (of_z w64 (to_z w64 c.pointer.result -ℤ to_z w64 (of_z w64 c.from.result))) in
    let same : place ≡ pos s.pointer -ℤ n = omega (arith, ints) in
    back_by s _ (arguments c.args.args.now) _ _ _ n place c.move_to.result c.move_to.ensures c.in_ok-n.ensures same
