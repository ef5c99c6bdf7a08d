use Rattle.std.proofs.Common.{◌∙◌, ap, refl, ◌+◌, ◌++◌, take, drop, length, inr}
use Rattle.teco_core.specs.ArgumentsView.{arguments}
use Rattle.teco_core.specs.Register.{content}
use Rattle.teco_core.specs.declared.limits.TheConstants.{TEXT_LIMIT}
use Rattle.teco_step.specs.Families.{range_of}
use Rattle.teco_step.specs.Registers.{extract, kept}
use Rattle.teco_step.specs.Step.{goes, goes_on, on}
use Rattle.teco_step.specs.Typing.{part}
use Rattle.teco_step.proofs.Acting.{acts_refused, acts_undone, refusal_made, refusal_then, then_ok, within_by, acts_answered}
use Rattle.teco_step.proofs.Texts.{sets_over, sets_within}
use Rattle.teco_step.proofs.registers.extract.Goals as goal

pub returns-in_err-range : goal.returns-in_err-range
returns-in_err-range g c =
    let s = g.D.Desk.state c.args.desk.now in
    let a = arguments c.args.args.now in
    let h = c.in_err-range.field-0.0 in
    acts_refused (goes (extract c.args.modifiers c.args.q)) s a _ h c.from_residual.result c.from_residual.ensures.1 (refusal_made h s _ (refusal_then h _ _ c.in_err-range.ensures.value))

pub returns-in_err-text : goal.returns-in_err-text
returns-in_err-text g c =
    let s = g.D.Desk.state c.args.desk.now in
    let a = arguments c.args.args.now in
    acts_undone (goes (extract c.args.modifiers c.args.q)) s s a _ _ _ c.from_residual-in_err-text.result c.from_residual-in_err-text.ensures.1 (inr c.in_err-text.ensures.err) refl (λ t b. b)

pub returns : goal.returns
returns g c =
    let s = g.D.Desk.state c.args.desk.now in
    let a = arguments c.args.args.now in
    let range = c.in_ok-range.range in
    let front = kept c.args.modifiers c.args.q s in
    let bytes = front ++ part s (range_of range) in
    let items = c.in_ok-text.ensures.ok ∙ ap (λ back. front ++ back) (c.part.ensures.joined ∙ ap (λ text. drop range.start (take range.end text)) c.halves.ensures.joined) in
    let old = length (content s.registers c.args.q).text in
    let d = c.set_text.ensures in
    acts_answered (goes (extract c.args.modifiers c.args.q)) s _ _ a _ (old + length c.in_ok-text.text.items) on _ _ c.set_text.result _ c.done.result c.done.ensures.ok c.done.ensures.err d.ok d.err d.follows d.keeps
    (λ b. ap (goes_on s) (then_ok _ (range_of range) _ _ c.in_ok-range.ensures.value (sets_over c.args.q bytes c.in_ok-text.text.items s items (d.big.0 b))))
    (λ e. ap (goes_on s) (then_ok _ (range_of range) _ _ c.in_ok-range.ensures.value (sets_within c.args.q bytes c.in_ok-text.text.items s items (within_by (length c.in_ok-text.text.items) TEXT_LIMIT _ d.big.1 e)))) refl refl
