use Rattle.std.proofs.Common.{◌∙◌, ap, sym, refl, rules, ◌+◌, drop, FitsSigned, subst, w32, w64}
use Rattle.std.proofs.lemmas.Int.{to_z-of_z}
use Rattle.teco_core.specs.Arguments.{give}
use Rattle.teco_core.specs.ArgumentsView.{arguments}
use Rattle.teco_core.specs.Number.{fitted}
use Rattle.teco_store.specs.State.{pointed}
use Rattle.teco_step.specs.Decimal.{numeral_at, read_number}
use Rattle.teco_step.specs.Families.{IsRefusal}
use Rattle.teco_step.specs.Step.{goes}
use Rattle.teco_step.proofs.Acting.{acts_refused, acts_undone, goes_done, memory_why, refusal_after, refusal_made, refusal_then, then_ok}
use Rattle.teco_step.proofs.decimal.read_number.Goals as goal

pub returns-in_err-number : goal.returns-in_err-number
returns-in_err-number g c =
    let s = g.D.Desk.state c.args.desk.now in
    let a = arguments c.args.args.now in
    let written = c.numeral_at-written.ensures in
    let p = c.pointer.ensures.value in
    let joined = c.halves.ensures.joined in
    let fits : FitsSigned w64 c.numeral_at-written.result.value = search rules in
    let value = ap fitted (to_z-of_z w64 c.numeral_at-written.result.value fits) ∙ written.value ∙ ap (λ text. fitted (numeral_at (drop c.pointer.result text)).value) joined
    ∙ ap (λ p. fitted (numeral_at (drop p s.text)).value) p in
    let h = c.in_err-number.field-0.0 in
    acts_refused (goes read_number) s a _ h c.from_residual.result c.from_residual.ensures.1 (refusal_made h s _ (refusal_then h _ _ (subst (λ m. IsRefusal h m) value c.in_err-number.ensures)))

pub returns-in_err-left : goal.returns-in_err-left
returns-in_err-left g c =
    let s = g.D.Desk.state c.args.desk.now in
    let a = arguments c.args.args.now in
    let written = c.numeral_at-written.ensures in
    let p = c.pointer.ensures.value in
    let joined = c.halves.ensures.joined in
    let fits : FitsSigned w64 c.numeral_at-written.result.value = search rules in
    let value = ap fitted (to_z-of_z w64 c.numeral_at-written.result.value fits) ∙ written.value ∙ ap (λ text. fitted (numeral_at (drop c.pointer.result text)).value) joined
    ∙ ap (λ p. fitted (numeral_at (drop p s.text)).value) p in
    let fits_number : FitsSigned w32 c.in_ok-number.number = search rules in
    let n = to_z-of_z w32 c.in_ok-number.number fits_number in
    let number = sym value ∙ c.in_ok-number.ensures in
    let h = c.in_err-left.field-0.0 in
    let refused = subst (λ n. IsRefusal h (give n a)) n c.in_err-left.ensures in
    acts_refused (goes read_number) s a _ h c.from_residual-in_err-left.result c.from_residual-in_err-left.ensures.1
    (refusal_made h s _ (refusal_after h _ c.in_ok-number.number _ number (refusal_then h _ _ refused)))

pub returns-in_err-point : goal.returns-in_err-point
returns-in_err-point g c =
    let d = c.in_err-point.ensures in
    acts_undone (goes read_number) (g.D.Desk.state c.args.desk.now) _ (arguments c.args.args.now) _ _ _ c.from_residual-in_err-point.result c.from_residual-in_err-point.ensures.1
    (memory_why _ _ d.only_memory) d.err d.keeps

pub returns : goal.returns
returns g c =
    let s = g.D.Desk.state c.args.desk.now in
    let a = arguments c.args.args.now in
    let written = c.numeral_at-written.ensures in
    let p = c.pointer.ensures.value in
    let joined = c.halves.ensures.joined in
    let fits : FitsSigned w64 c.numeral_at-written.result.value = search rules in
    let value = ap fitted (to_z-of_z w64 c.numeral_at-written.result.value fits) ∙ written.value ∙ ap (λ text. fitted (numeral_at (drop c.pointer.result text)).value) joined
    ∙ ap (λ p. fitted (numeral_at (drop p s.text)).value) p in
    let fits_number : FitsSigned w32 c.in_ok-number.number = search rules in
    let n = to_z-of_z w32 c.in_ok-number.number fits_number in
    let number = sym value ∙ c.in_ok-number.ensures in
    let given = sym (ap (λ n. give n a) n) ∙ c.in_ok-left.ensures in
    let end = written.end ∙ ap (λ text. c.pointer.result + (numeral_at (drop c.pointer.result text)).size) joined ∙ ap (λ p. p + (numeral_at (drop p s.text)).size) p in
    let done = c.in_ok-point.ensures in
    goes_done s (pointed s (s.pointer + (numeral_at (drop s.pointer s.text)).size)) _ _ _ (read_number s a) 0 _ _ (then_ok _ _ _ _ number (then_ok _ _ _ _ given refl))
    (done.ok ∙ ap (pointed s) end) refl refl done.follows
