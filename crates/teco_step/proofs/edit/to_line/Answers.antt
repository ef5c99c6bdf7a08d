use Rattle.std.proofs.Common.{refl, ◌∙◌, ap, sym, rules, FitsSigned, w32}
use Rattle.std.proofs.lemmas.Int.{to_z-of_z}
use Rattle.teco_core.specs.ArgumentsView.{arguments}
use Rattle.teco_store.specs.State.{pointed}
use Rattle.teco_step.specs.Editing.{moves, to_line}
use Rattle.teco_step.specs.Line.{line}
use Rattle.teco_step.specs.Step.{goes, goes_on, on}
use Rattle.teco_step.proofs.Acting.{acts_answered, acts_refused, refusal_made, refusal_then, then_ok}
use Rattle.teco_step.proofs.edit.to_line.Goals as goal

pub returns-in_err-n : goal.returns-in_err-n
returns-in_err-n g c =
    let s = g.D.Desk.state c.args.desk.now in
    let a = arguments c.args.args.now in
    let h = c.in_err-n.field-0.0 in
    acts_refused (goes to_line) s a _ h c.from_residual.result c.from_residual.ensures.1 (refusal_made h s _ (refusal_then h _ _ c.in_err-n.ensures))

pub returns : goal.returns
returns g c =
    let s = g.D.Desk.state c.args.desk.now in
    let a = arguments c.args.args.now in
    let fits : FitsSigned w32 c.in_ok-n.n = search rules in
    let n = to_z-of_z w32 c.in_ok-n.n fits in
    let place = c.line_from-place.ensures.value ∙ ap (line s.text s.pointer) n in
    let d = c.point.ensures in
    acts_answered (goes to_line) s (pointed s c.line_from-place.result) _ a _ 0 on _ _ c.point.result _ c.done.result c.done.ensures.ok c.done.ensures.err d.ok d.err d.follows d.keeps
    (λ b. absurd (d.only_memory b))
    (λ e. ap (goes_on s) (then_ok _ c.in_ok-n.n _ _ c.in_ok-n.ensures (ap (λ place. moves place s a) (sym place)))) refl refl
