use Rattle.std.proofs.Common.{◌≡◌, ap, arith, length, refl}
use Rattle.teco_core.specs.ArgumentsView.{arguments}
use Rattle.teco_core.specs.declared.limits.TheConstants.{TEXT_LIMIT}
use Rattle.teco_store.specs.Page.{page_load, with_page}
use Rattle.teco_step.specs.Pages.{next_page}
use Rattle.teco_step.specs.Step.{goes, goes_on, on}
use Rattle.teco_step.proofs.Acting.{acts_left, acts_refused, goes_made, refusal_made, refusal_then, then_not, then_ok, within_by}
use Rattle.teco_step.proofs.PageReads.{read_over, read_within, told}
use Rattle.teco_step.proofs.pages.next_page.Goals as goal

pub returns-in_err-takes_none : goal.returns-in_err-takes_none
returns-in_err-takes_none g c =
    let s = g.D.Desk.state c.args.desk.now in
    let a = arguments c.args.args.now in
    let h = c.in_err-takes_none.field-0.0 in
    acts_refused (goes (next_page c.args.modifiers)) s a _ h c.from_residual.result c.from_residual.ensures.1 (refusal_made h s _ (refusal_then h _ _ c.in_err-takes_none.ensures))

pub returns : goal.returns
returns g c =
    let s = g.D.Desk.state c.args.desk.now in
    let a = arguments c.args.args.now in
    let empty : length s.text ≡ 0 = omega (arith, c.text_length.ensures.value) in
    let d = c.read_page.ensures in
    let made = next_page c.args.modifiers in
    acts_left (goes made) s (with_page s) _ a _ _ (page_load s) on _ _ c.read_page.result _ c.tell.result (told s _ _ _ _ c.tell.result _ c.has_page-there.ensures c.tell.ensures.ok) c.tell.ensures.err d.ok d.err d.follows d.keeps
    (λ b. ap (goes_on s) (then_ok _ tt _ _ c.in_ok-takes_none.ensures (then_not _ _ _ (read_over s empty (d.big.0 b)))))
    (λ e. goes_made made s (with_page s) a _ _ (then_ok _ tt _ _ c.in_ok-takes_none.ensures (then_ok _ (with_page s) _ _ (read_within s empty (within_by (length (with_page s).text) TEXT_LIMIT _ d.big.1 e)) refl)) refl) refl refl
