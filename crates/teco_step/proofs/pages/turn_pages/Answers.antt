use Rattle.std.proofs.Common.{◌≡◌, ◌∙◌, ap, rules, subst, sym, FitsSigned, Ok, OnOk, ℤ, w32}
use Rattle.std.proofs.lemmas.Int.{to_z-of_z}
use Rattle.teco_core.specs.ArgumentsView.{arguments}
use Rattle.teco_store.specs.Page.{page_load, with_next_page}
use Rattle.teco_step.specs.Pages.{after_page, is_asked, tells, turn_pages}
use Rattle.teco_step.specs.Step.{steers}
use Rattle.teco_step.proofs.Acting.{acts_left, acts_refused, ends_so, refusal_then, then_not, then_ok, turned_over, turned_within}
use Rattle.teco_step.proofs.PageReads.{told}
use Rattle.teco_step.proofs.pages.turn_pages.Goals as goal

pub returns-in_err-n : goal.returns-in_err-n
returns-in_err-n g c =
    let s = g.D.Desk.state c.args.desk.now in
    let a = arguments c.args.args.now in
    let h = c.in_err-n.field-0.0 in
    acts_refused (steers (turn_pages c.args.modifiers c.args.work)) s a _ h c.from_residual.result c.from_residual.ensures.1 (refusal_then h _ _ c.in_err-n.ensures)

pub returns : goal.returns
returns g c =
    let s = g.D.Desk.state c.args.desk.now in
    let a = arguments c.args.args.now in
    let t = with_next_page s in
    let fits : FitsSigned w32 c.in_ok-n.n = search rules in
    let n = to_z-of_z w32 c.in_ok-n.n fits in
    let d = c.turn_page.ensures in
    let left = λ (n : ℤ). tells (is_asked c.args.modifiers n) s in
    let ok = subst (λ b. OnOk c.turn_page.result ((c.tell.result ≡ Ok c.after_page.result) × (arguments c.tell.new.args ≡ tells b s))) (c.is_asked-asked.ensures ∙ ap (is_asked c.args.modifiers) n) (told s _ _ _ _ c.tell.result _ c.has_page-there.ensures c.tell.ensures.ok) in
    acts_left (steers (turn_pages c.args.modifiers c.args.work)) s t _ a (left c.in_ok-n.n) _ (page_load s) _ _ _ c.turn_page.result _ c.tell.result ok c.tell.ensures.err d.ok d.err d.follows d.keeps
    (λ b. then_ok _ c.in_ok-n.n _ _ c.in_ok-n.ensures (then_not _ _ _ (turned_over s (d.big.0 b))))
    (λ e. then_ok _ c.in_ok-n.n _ _ c.in_ok-n.ensures (then_ok _ t _ _ (turned_within s _ d.big.1 e)
    (ends_so t (left c.in_ok-n.n) (page_load s) _ _ (ap after_page (sym n)))))
    c.after_page.ensures.leads c.after_page.ensures.finished
