use Rattle.std.proofs.Common.{FitsSigned, ◌∙◌, ap, inl, inr, Ok, refl, rules, sym, w32}
use Rattle.std.proofs.lemmas.Int.{to_z-of_z}
use mir.Val.{of_z, to_z}
use Rattle.teco_search.specs.Occurrence.{occurrence}
use Rattle.teco_step.proofs.Acting.{passes, refusal_then, then_ok, why_after, why_then}
use Rattle.teco_step.proofs.searching.found_apart.Goals as goal

pub returns-in_err-n-clause-err : goal.returns-in_err-n-clause-err
returns-in_err-n-clause-err g c =
    passes _ _ c.from_residual.result c.from_residual.ensures.1 (inl (refusal_then _ _ _ c.in_err-n.ensures))

pub returns-in_err-place-clause-err : goal.returns-in_err-place-clause-err
returns-in_err-place-clause-err g c =
    passes _ _ c.from_residual-in_err-place.result c.from_residual-in_err-place.ensures.1 (inr refl)

pub returns-in_err-pattern-clause-err : goal.returns-in_err-pattern-clause-err
returns-in_err-pattern-clause-err g c =
    passes _ _ c.from_residual-in_err-pattern.result c.from_residual-in_err-pattern.ensures.1 (why_after _ _ c.in_ok-n.n _ c.in_ok-n.ensures (why_then _ _ _ (c.in_err-pattern.ensures.err c.args.text.now c.meant-meant.ensures)))

pub returns-in_err-found-clause-err : goal.returns-in_err-found-clause-err
returns-in_err-found-clause-err g c =
    passes _ _ c.from_residual-in_err-found.result c.from_residual-in_err-found.ensures.1 (inr refl)

pub returns-clause-ok : goal.returns-clause-ok
returns-clause-ok g c =
    let s = g.D.Desk.state c.args.desk.now in
    let q = c.in_ok-pattern.pattern in
    let n = c.in_ok-n.n in
    let fits : FitsSigned w32 n = search rules in
    let is = c.in_ok-found.ensures.value ∙ ap (λ t. occurrence q t c.pointer-2.result (to_z w32 (of_z w32 n))) c.halves-2.ensures.joined
    ∙ ap (λ p. occurrence q s.text p (to_z w32 (of_z w32 n))) c.pointer-2.ensures.value ∙ ap (occurrence q s.text s.pointer) (to_z-of_z w32 n fits) in
    then_ok _ n _ _ c.in_ok-n.ensures (then_ok _ q _ _ (c.in_ok-pattern.ensures.ok c.args.text.now c.meant-meant.ensures) (ap Ok (sym is)))
