use Rattle.std.proofs.Common.{◌∙◌, ap, sym, rules, pos, ◌+ℤ◌, [], FitsSigned, subst, w32, w64, ◌-◌}
use Rattle.std.proofs.lemmas.Int.{to_z-of_z}
use Rattle.teco_core.specs.ArgumentsView.{arguments}
use Rattle.teco_core.specs.declared.code.Code.TheVariants.{Dtb}
use Rattle.teco_step.specs.Editing.{delete, puts, puts}
use Rattle.teco_step.specs.Families.{IsRefusal}
use Rattle.teco_step.specs.Step.{goes, goes_on, place_or, rising}
use Rattle.teco_step.proofs.Acting.{acts_as, acts_refused, refusal_after, refusal_made, refusal_then, then_ok}
use Rattle.teco_step.proofs.edit.delete.Goals as goal

pub returns-in_err-n : goal.returns-in_err-n
returns-in_err-n g c =
    let s = g.D.Desk.state c.args.desk.now in
    let a = arguments c.args.args.now in
    let h = c.in_err-n.field-0.0 in
    acts_refused (goes delete) s a _ h c.from_residual.result c.from_residual.ensures.1 (refusal_made h s _ (refusal_then h _ _ c.in_err-n.ensures))

pub returns-in_err-place : goal.returns-in_err-place
returns-in_err-place g c =
    let s = g.D.Desk.state c.args.desk.now in
    let a = arguments c.args.args.now in
    let fits : FitsSigned w32 c.in_ok-n.n = search rules in
    let fits_place : FitsSigned w64 c.place_after.result = search rules in
    let n = to_z-of_z w32 c.in_ok-n.n fits in
    let place = to_z-of_z w64 c.place_after.result fits_place ∙ c.place_after.ensures ∙ ap (λ n. pos s.pointer +ℤ n) n in
    let h = c.in_err-place.field-0.0 in
    let refused = subst (λ p. IsRefusal h (place_or Dtb s p)) place c.in_err-place.ensures.value in
    acts_refused (goes delete) s a _ h c.from_residual-in_err-place.result c.from_residual-in_err-place.ensures.1
    (refusal_made h s _ (refusal_after h _ c.in_ok-n.n _ c.in_ok-n.ensures (refusal_then h _ _ refused)))

pub returns : goal.returns
returns g c =
    let s = g.D.Desk.state c.args.desk.now in
    let a = arguments c.args.args.now in
    let fits : FitsSigned w32 c.in_ok-n.n = search rules in
    let fits_place : FitsSigned w64 c.place_after.result = search rules in
    let n = to_z-of_z w32 c.in_ok-n.n fits in
    let range = c.rising-range.result in
    let p = c.in_ok-place.place in
    let there = to_z-of_z w64 c.place_after.result fits_place ∙ c.place_after.ensures ∙ ap (λ n. pos s.pointer +ℤ n) n in
    let place = sym (ap (place_or Dtb s) there) ∙ c.in_ok-place.ensures.value in
    let risen = sym (c.rising-range.ensures.value ∙ ap (λ q. rising q p) c.pointer.ensures.value) in
    acts_as (goes delete) (goes (puts range.start (range.end - range.start) [])) s _ a _ _ _ c.put.result
    (ap (goes_on s) (then_ok _ c.in_ok-n.n _ _ c.in_ok-n.ensures (then_ok _ p _ _ place (ap (λ r. puts r.low (r.high - r.low) [] s a) risen)))) c.put.ensures
