use Rattle.std.proofs.Common.{◌≡◌, ◌∙◌, ap, Bool, false, true, refl, rules, sym, FitsSigned, w32}
use Rattle.std.specs.Prelude.{not, if◌then◌else◌}
use Rattle.std.proofs.lemmas.Bool.{false≢true}
use Rattle.std.proofs.lemmas.Int.{to_z-of_z}
use mir.Val.{of_z, to_z}
use Rattle.teco_core.specs.ArgumentsView.{arguments}
use Rattle.teco_step.specs.PageSearching.{goes_to_page, next_in, search_page, search_pages, step_of}
use Rattle.teco_step.specs.Step.{steers}
use Rattle.teco_step.proofs.Acting.{acts_as}
use Rattle.teco_step.proofs.page_searching.search_pages.Goals as goal

not_true : (b : Bool) → not b ≡ true → b ≡ false
not_true false e = refl
not_true true e = absurd (false≢true e)

pub returns-in-Some : goal.returns-in-Some
returns-in-Some g c =
    let s = g.D.Desk.state c.args.desk.now in
    let a = arguments c.args.args.now in
    let next = next_in c.args.quietly in
    let text = c.args.text.now in
    let w = c.args.setting in
    let work = c.in-Some.work in
    let fits : FitsSigned w32 work.left = search rules in
    let left = sym (to_z-of_z w32 work.left fits) in
    let asks = not_true work.search c.if-not-work.true in
    acts_as (steers (search_pages next text w)) (steers (λ s x. goes_to_page next (to_z w32 (of_z w32 work.left)) s)) s _ a _ _ _ c.go_on.result
    (ap (λ k. step_of next k text w s a) c.in-Some.is ∙ ap (λ b. if b then search_page text w s a else goes_to_page next work.left s) asks ∙ ap (λ n. goes_to_page next n s) left) c.go_on.ensures
