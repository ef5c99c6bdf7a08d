use Rattle.std.proofs.Common.{◌≡◌, ◌++◌, Bool, true, false, ap, length, refl}
use Rattle.teco_core.specs.ArgumentsView.{arguments}
use Rattle.teco_core.specs.declared.limits.TheConstants.{TEXT_LIMIT}
use Rattle.std.specs.Prelude.{if◌then◌else◌}
use Rattle.teco_store.specs.State.{State}
use Rattle.teco_store.specs.Page.{is_input_over, past_page, with_more, page}
use Rattle.teco_step.specs.Pages.{append_page}
use Rattle.teco_step.specs.Step.{goes, goes_on, on}
use Rattle.teco_step.proofs.Acting.{goes_made, acts_refused, if_over, refusal_made, refusal_then, then_not, then_ok, within_by, if_within, acts_left}
use Rattle.teco_step.proofs.PageReads.{told}
use Rattle.teco_step.proofs.pages.append_page.Goals as goal

more_is_done : (s : State) (b : Bool) → (if b then s else record (past_page s) { text = s.text ++ page s }).is_done ≡ s.is_done
more_is_done s true = refl
more_is_done s false = refl

pub returns-in_err-takes_none : goal.returns-in_err-takes_none
returns-in_err-takes_none g c =
    let s = g.D.Desk.state c.args.desk.now in
    let a = arguments c.args.args.now in
    let h = c.in_err-takes_none.field-0.0 in
    acts_refused (goes (append_page c.args.modifiers)) s a _ h c.from_residual.result c.from_residual.ensures.1 (refusal_made h s _ (refusal_then h _ _ c.in_err-takes_none.ensures))

pub returns : goal.returns
returns g c =
    let s = g.D.Desk.state c.args.desk.now in
    let a = arguments c.args.args.now in
    let d = c.append_page.ensures in
    let made = append_page c.args.modifiers in
    acts_left (goes made) s (with_more s) _ a _ _ (length (page s)) on _ _ c.append_page.result _ c.tell.result (told s _ _ _ _ c.tell.result _ c.has_page-there.ensures c.tell.ensures.ok) c.tell.ensures.err d.ok d.err d.follows d.keeps
    (λ b. ap (goes_on s) (then_ok _ tt _ _ c.in_ok-takes_none.ensures (then_not _ _ _ (if_over (length (with_more s).text) TEXT_LIMIT _ (d.big.0 b)))))
    (λ e. goes_made made s (with_more s) a _ _ (then_ok _ tt _ _ c.in_ok-takes_none.ensures (then_ok _ (with_more s) _ _ (if_within (length (with_more s).text) TEXT_LIMIT _ (within_by (length (with_more s).text) TEXT_LIMIT _ d.big.1 e)) refl)) (more_is_done s (is_input_over s))) refl refl
