use Rattle.std.proofs.Common.{◌∙◌, ◌++◌, ◌-ℤ◌, ap, inr, length, pos, refl, rules, sym, true, FitsSigned, w32}
use Rattle.std.proofs.lemmas.Int.{to_z-of_z}
use mir.Val.{of_z, to_z}
use Rattle.teco_search.specs.Occurrence.{forward, occurrence}
use Rattle.teco_core.specs.ArgumentsView.{arguments}
use Rattle.teco_step.specs.PageSearching.{page_searched, runs_out, search_page}
use Rattle.teco_step.specs.Searching.{answers, notes}
use Rattle.teco_step.specs.Step.{on, steers}
use Rattle.teco_step.proofs.Acting.{acts_as, acts_refused, acts_undone, refusal_then, then_ok, why_then, why_after}
use Rattle.teco_step.proofs.page_searching.search_page.Goals as goal

pub returns-in_err-n : goal.returns-in_err-n
returns-in_err-n g c =
    let s = g.D.Desk.state c.args.desk.now in
    let a = arguments c.args.args.now in
    let h = c.in_err-n.field-0.0 in
    acts_refused (steers (search_page c.args.text.now c.args.setting)) s a _ h c.from_residual.result c.from_residual.ensures.1 (refusal_then h _ _ c.in_err-n.ensures.value)

pub returns-in_err-pattern : goal.returns-in_err-pattern
returns-in_err-pattern g c =
    let s = g.D.Desk.state c.args.desk.now in
    let a = arguments c.args.args.now in
    acts_undone (steers (search_page c.args.text.now c.args.setting)) s s a _ _ _ c.from_residual-in_err-pattern.result c.from_residual-in_err-pattern.ensures.1 (why_after _ _ c.in_ok-n.n _ c.in_ok-n.ensures.value (why_then _ _ _ c.in_err-pattern.ensures.err)) refl (λ t b. b)

pub returns-in_err-told : goal.returns-in_err-told
returns-in_err-told g c =
    let s = g.D.Desk.state c.args.desk.now in
    let a = arguments c.args.args.now in
    acts_undone (steers (search_page c.args.text.now c.args.setting)) s s a _ _ _ c.from_residual-in_err-told.result c.from_residual-in_err-told.ensures.1 (inr refl) refl (λ t b. b)

pub returns-in-Ok : goal.returns-in-Ok
returns-in-Ok g c =
    let s = g.D.Desk.state c.args.desk.now in
    let a = arguments c.args.args.now in
    let text = c.args.text.now in
    let w = c.args.setting in
    let q = c.in_ok-pattern.pattern in
    let n = c.in_ok-n.n in
    let fits : FitsSigned w32 n = search rules in
    let told = rw c.in-Ok.is at c.in_ok-told.ensures.value in
    let found = told ∙ ap (λ t. occurrence q t c.pointer.result (to_z w32 (of_z w32 n))) c.halves.ensures.joined
    ∙ ap (λ p. occurrence q s.text p (to_z w32 (of_z w32 n))) c.pointer.ensures.value ∙ ap (occurrence q s.text s.pointer) (to_z-of_z w32 n fits) in
    acts_as (steers (search_page text w)) (steers (λ s x. notes text true c.in-Ok.end (answers w true) on s)) s _ a _ _ _ c.note.result
    (then_ok _ n _ _ c.in_ok-n.ensures.value (then_ok _ q _ _ c.in_ok-pattern.ensures.ok (ap (λ o. page_searched text w n q o s a) (sym found)))) c.note.ensures

pub returns : goal.returns
returns g c =
    let s = g.D.Desk.state c.args.desk.now in
    let a = arguments c.args.args.now in
    let text = c.args.text.now in
    let w = c.args.setting in
    let q = c.in_ok-pattern.pattern in
    let n = c.in_ok-n.n in
    let fits : FitsSigned w32 n = search rules in
    let fits_left : FitsSigned w32 c.in-Err.left = search rules in
    let same = to_z-of_z w32 n fits in
    let told = rw c.in-Err.is at c.in_ok-told.ensures.value in
    let wanted = rw c.in-Err.is at c.in_ok-told.ensures.fewer in
    let none = told ∙ ap (λ t. occurrence q t c.pointer.result (to_z w32 (of_z w32 n))) c.halves.ensures.joined
    ∙ ap (λ p. occurrence q s.text p (to_z w32 (of_z w32 n))) c.pointer.ensures.value ∙ ap (occurrence q s.text s.pointer) same in
    let still = wanted ∙ ap (λ m. m -ℤ pos (length (forward q (c.halves.result.0.now ++ c.halves.result.1.now) c.pointer.result))) same
    ∙ ap (λ t. n -ℤ pos (length (forward q t c.pointer.result))) c.halves.ensures.joined ∙ ap (λ p. n -ℤ pos (length (forward q s.text p))) c.pointer.ensures.value in
    acts_as (steers (search_page text w)) (steers (runs_out text w (to_z w32 (of_z w32 c.in-Err.left)))) s _ a _ _ _ c.run_out.result
    (then_ok _ n _ _ c.in_ok-n.ensures.value (then_ok _ q _ _ c.in_ok-pattern.ensures.ok
    (ap (λ o. page_searched text w n q o s a) (sym none) ∙ ap (λ l. runs_out text w l s a) (sym (to_z-of_z w32 c.in-Err.left fits_left ∙ still))))) c.run_out.ensures
