use Rattle.std.proofs.Common.{FitsSigned, ◌∙◌, ap, ap₂, arith, false, Ok, refl, rules, subst, sym, true, w32}
use Rattle.std.proofs.lemmas.Grind.{common_steps}
use Rattle.std.proofs.lemmas.Int.{to_z-of_z}
use Rattle.teco_core.specs.ArgumentsView.{arguments}
use Rattle.teco_core.specs.declared.arguments.Taken.TheVariants as taken
use Rattle.teco_step.specs.Families.{IsRefusal, range_of}
use Rattle.teco_step.specs.Pages.{write_page, writes}
use Rattle.teco_step.specs.Step.{goes, goes_on, reached}
use Rattle.teco_step.proofs.Acting.{acts_as, acts_refused, refusal_after, refusal_made, refusal_then, then_ok}
use Rattle.teco_step.proofs.pages.write_page.Goals as goal

pub returns-in_err-taken : goal.returns-in_err-taken
returns-in_err-taken g c =
    let s = g.D.Desk.state c.args.desk.now in
    let a = arguments c.args.args.now in
    let h = c.in_err-taken.field-0.0 in
    acts_refused (goes write_page) s a _ h c.from_residual.result c.from_residual.ensures.1 (refusal_made h s _ (refusal_then h _ _ c.in_err-taken.ensures))

pub write_out-requires-clause-ordered : goal.write_out-requires-clause-ordered
write_out-requires-clause-ordered g c = omega arith

pub write_out-requires-clause-within : goal.write_out-requires-clause-within
write_out-requires-clause-within g c = omega (arith, c.text_length.ensures.value)

pub returns-in_err-range-in-Two : goal.returns-in_err-range-in-Two
returns-in_err-range-in-Two g c =
    let s = g.D.Desk.state c.args.desk.now in
    let a = arguments c.args.args.now in
    let h = c.in_err-range-in-Two.field-0.0 in
    let fits_m : FitsSigned w32 c.in-Two.m = search rules in
    let fits_n : FitsSigned w32 c.in-Two.n = search rules in
    let same = ap₂ (λ m n. reached s (taken.Two m n)) (to_z-of_z w32 c.in-Two.m fits_m) (to_z-of_z w32 c.in-Two.n fits_n) in
    acts_refused (goes write_page) s a _ h c.from_residual-in_err-range-in-Two.result c.from_residual-in_err-range-in-Two.ensures.1
    (refusal_made h s _ (refusal_after h _ (taken.Two c.in-Two.m c.in-Two.n) _ (c.in_ok-taken.ensures ∙ ap Ok c.in-Two.is) (refusal_then h _ _ (subst (IsRefusal h) same c.in_err-range-in-Two.ensures.value))))

pub write_out-requires-in-Two-clause-ordered : goal.write_out-requires-in-Two-clause-ordered
write_out-requires-in-Two-clause-ordered g c = c.in_ok-range-in-Two.ensures.ordered

pub write_out-requires-in-Two-clause-within : goal.write_out-requires-in-Two-clause-within
write_out-requires-in-Two-clause-within g c = c.in_ok-range-in-Two.ensures.within

pub returns-in-None : goal.returns-in-None
returns-in-None g c =
    let s = g.D.Desk.state c.args.desk.now in
    let a = arguments c.args.args.now in
    let end = c.text_length.result in
    acts_as (goes write_page) (goes (writes 0 end true)) s _ a _ _ _ c.write_out.result
    (ap (goes_on s) (then_ok _ taken.None _ _ (c.in_ok-taken.ensures ∙ ap Ok c.in-None.is) (ap (λ n. writes 0 n true s a) (sym c.text_length.ensures.value)))) c.write_out.ensures

pub returns-in-One : goal.returns-in-One
returns-in-One g c = grind (arith, common_steps)

pub returns-in_ok-range-in-Two : goal.returns-in_ok-range-in-Two
returns-in_ok-range-in-Two g c =
    let s = g.D.Desk.state c.args.desk.now in
    let a = arguments c.args.args.now in
    let range = c.in_ok-range-in-Two.range in
    let fits_m : FitsSigned w32 c.in-Two.m = search rules in
    let fits_n : FitsSigned w32 c.in-Two.n = search rules in
    let same = ap₂ (λ m n. reached s (taken.Two m n)) (to_z-of_z w32 c.in-Two.m fits_m) (to_z-of_z w32 c.in-Two.n fits_n) in
    acts_as (goes write_page) (goes (writes range.start range.end false)) s _ a _ _ _ c.write_out-in-Two.result
    (ap (goes_on s) (then_ok _ (taken.Two c.in-Two.m c.in-Two.n) _ _ (c.in_ok-taken.ensures ∙ ap Ok c.in-Two.is) (then_ok _ (range_of range) (λ r. writes r.low r.high false s a) _ (sym same ∙ c.in_ok-range-in-Two.ensures.value) refl))) c.write_out-in-Two.ensures
