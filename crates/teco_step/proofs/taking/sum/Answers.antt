use Rattle.std.proofs.Common.{ap₂, ◌∙◌, ap, sym, refl, rules, ◌+ℤ◌, FitsSigned, w32, Ok}
use Rattle.std.proofs.lemmas.Int.{to_z-of_z}
use Rattle.teco_core.specs.Number.{fitted}
use Rattle.teco_step.proofs.Acting.{takes_refused}
use Rattle.teco_step.proofs.Own.{own_sum}
use Rattle.teco_step.proofs.taking.sum.Goals as goal

pub returns-in_err-operation : goal.returns-in_err-operation
returns-in_err-operation c =
    let m = to_z-of_z w32 c.args.m c.ranges.m in
    let n = to_z-of_z w32 c.args.n c.ranges.n in
    let same = ap₂ (λ m n. fitted (m +ℤ n)) m n in
    let e = sym same ∙ sym c.in_err-operation.ensures in
    takes_refused _ _ _ c.from_residual.result c.from_residual.ensures.1 (record { code = _; is = refl; refused = e; own = own_sum c.args.m c.args.n _ e })

pub returns : goal.returns
returns c =
    let m = to_z-of_z w32 c.args.m c.ranges.m in
    let n = to_z-of_z w32 c.args.n c.ranges.n in
    let same = ap₂ (λ m n. fitted (m +ℤ n)) m n in
    let fits : FitsSigned w32 c.in_ok-operation.field-0 = search rules in
    sym same ∙ sym c.in_ok-operation.ensures ∙ ap Ok (sym (to_z-of_z w32 c.in_ok-operation.field-0 fits))
