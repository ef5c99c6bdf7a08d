use Rattle.std.proofs.Common.{◌∙◌, ap, sym, Ok}
use Rattle.teco_core.specs.ArgumentsView.{arguments}
use Rattle.teco_step.specs.Editing.{insert, puts, puts, or_byte}
use Rattle.teco_step.specs.Step.{goes, goes_on}
use Rattle.teco_step.proofs.Acting.{acts_as, acts_refused, refusal_after, refusal_made, refusal_then, then_ok}
use Rattle.teco_step.proofs.edit.insert.Goals as goal

pub returns-in_err-taken : goal.returns-in_err-taken
returns-in_err-taken g c =
    let s = g.D.Desk.state c.args.desk.now in
    let a = arguments c.args.args.now in
    let h = c.in_err-taken.field-0.0 in
    acts_refused (goes (insert c.args.text.now)) s a _ h c.from_residual.result c.from_residual.ensures.1 (refusal_made h s _ (refusal_then h _ _ c.in_err-taken.ensures))

pub returns-in_err-inserted_byte : goal.returns-in_err-inserted_byte
returns-in_err-inserted_byte g c =
    let s = g.D.Desk.state c.args.desk.now in
    let a = arguments c.args.args.now in
    let h = c.in_err-inserted_byte.field-0.0 in
    acts_refused (goes (insert c.args.text.now)) s a _ h c.from_residual-in_err-inserted_byte.result c.from_residual-in_err-inserted_byte.ensures.1
    (refusal_made h s _ (refusal_after h _ c.in_ok-taken.field-0 _ c.in_ok-taken.ensures (refusal_then h _ _ c.in_err-inserted_byte.ensures)))

pub returns-in-None : goal.returns-in-None
returns-in-None g c =
    let s = g.D.Desk.state c.args.desk.now in
    let a = arguments c.args.args.now in
    let text = c.args.text.now in
    let bytes = c.in_ok-inserted_byte.ensures ∙ ap (λ o. Ok (or_byte text o)) c.in-None.is in
    acts_as (goes (insert c.args.text.now)) (goes (puts c.pointer-pointer.result 0 text)) s _ a _ _ _ c.put.result
    (ap (goes_on s) (then_ok _ c.in_ok-taken.field-0 _ _ c.in_ok-taken.ensures (then_ok _ text _ _ bytes (ap (λ p. puts p 0 text s a) (sym c.pointer-pointer.ensures.value))))) c.put.ensures
