use Rattle.std.proofs.Common.{◌∙◌, ap, inr, length, ◌+◌, ◌++◌, refl, sym}
use Rattle.teco_core.specs.ArgumentsView.{arguments}
use Rattle.teco_core.specs.Register.{content}
use Rattle.teco_core.specs.declared.limits.TheConstants.{TEXT_LIMIT}
use Rattle.teco_step.specs.Registers.{comes_to, kept}
use Rattle.teco_step.specs.Step.{goes, goes_on, on}
use Rattle.teco_step.proofs.Acting.{acts_answered, acts_undone, within_by}
use Rattle.teco_step.proofs.Texts.{kept_all, kept_none, sets_over, sets_within}
use Rattle.teco_step.proofs.registers.come_to.Goals as goal

pub returns-in_err-text : goal.returns-in_err-text
returns-in_err-text g c =
    let s = g.D.Desk.state c.args.desk.now in
    let a = arguments c.args.args.now in
    acts_undone (goes (λ s x. comes_to c.args.modifiers c.args.q c.args.text.now s)) s s a _ _ _ c.from_residual-in_err-text.result c.from_residual-in_err-text.ensures.1 (inr c.in_err-text.ensures.err) refl (λ t b. b)

pub returns : goal.returns
returns g c =
    let s = g.D.Desk.state c.args.desk.now in
    let a = arguments c.args.args.now in
    let m = c.args.modifiers in
    let q = c.args.q in
    let text = c.args.text.now in
    let put = c.in_ok-text.text.items in
    let items = c.in_ok-text.ensures.ok ∙ sym (ap (λ front. front ++ text) (kept_none m q s c.if-modifiers-eq1.false)) in
    let old = length (content s.registers q).text in
    let d = c.set_text-2.ensures in
    acts_answered (goes (λ s x. comes_to m q text s)) s _ _ a _ (old + length put) on _ _ c.set_text-2.result _ c.done-2.result c.done-2.ensures.ok c.done-2.ensures.err d.ok d.err d.follows d.keeps
    (λ b. ap (goes_on s) (sets_over q (kept m q s ++ text) put s items (d.big.0 b)))
    (λ e. ap (goes_on s) (sets_within q (kept m q s ++ text) put s items (within_by (length put) TEXT_LIMIT _ d.big.1 e))) refl refl

pub returns-then-modifiers-eq1 : goal.returns-then-modifiers-eq1
returns-then-modifiers-eq1 g c =
    let s = g.D.Desk.state c.args.desk.now in
    let a = arguments c.args.args.now in
    let m = c.args.modifiers in
    let q = c.args.q in
    let text = c.args.text.now in
    let put = c.in_ok-both.both.items in
    let items = c.in_ok-both.ensures.ok ∙ ap (λ front. front ++ text) (c.text.ensures ∙ ap (λ rs. (content rs q).text) c.registers.ensures.value ∙ sym (kept_all m q s c.if-modifiers-eq1.true)) in
    let old = length (content s.registers q).text in
    let d = c.set_text.ensures in
    acts_answered (goes (λ s x. comes_to m q text s)) s _ _ a _ (old + length put) on _ _ c.set_text.result _ c.done.result c.done.ensures.ok c.done.ensures.err d.ok d.err d.follows d.keeps
    (λ b. ap (goes_on s) (sets_over q (kept m q s ++ text) put s items (d.big.0 b)))
    (λ e. ap (goes_on s) (sets_within q (kept m q s ++ text) put s items (within_by (length put) TEXT_LIMIT _ d.big.1 e))) refl refl

pub returns-in_err-both : goal.returns-in_err-both
returns-in_err-both g c =
    let s = g.D.Desk.state c.args.desk.now in
    let a = arguments c.args.args.now in
    acts_undone (goes (λ s x. comes_to c.args.modifiers c.args.q c.args.text.now s)) s s a _ _ _ c.from_residual.result c.from_residual.ensures.1 (inr c.in_err-both.ensures.err) refl (λ t b. b)
