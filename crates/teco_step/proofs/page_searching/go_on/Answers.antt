use Rattle.std.proofs.Common.{◌≡◌, ◌∙◌, ap, arith, length, refl, true, w32, ℤ}
use Rattle.std.proofs.lemmas.Int.{to_z-of_z}
use Rattle.teco_core.specs.ArgumentsView.{arguments}
use Rattle.teco_core.specs.declared.limits.TheConstants.{TEXT_LIMIT}
use Rattle.teco_store.specs.Page.{page_load, with_page}
use Rattle.teco_step.specs.PageSearching.{goes_to_page, next_in}
use Rattle.teco_step.specs.Step.{again, steers}
use Rattle.teco_step.proofs.Acting.{acts_answered, then_not, then_ok, within_by}
use Rattle.teco_step.proofs.PageReads.{read_over, read_within}
use Rattle.teco_step.proofs.page_searching.go_on.Goals as goal

pub returns : goal.returns
returns g c =
    let s = g.D.Desk.state c.args.desk.now in
    let a = arguments c.args.args.now in
    let q = c.args.quietly in
    let left = c.args.left in
    let same = to_z-of_z w32 left c.ranges.left in
    let t = with_page s in
    let empty : length s.text ≡ 0 = omega (arith, c.text_length.ensures.value) in
    let quiet = ap (λ q. next_in q s) c.if-not-quietly.false in
    let d = c.read_page.ensures in
    acts_answered (steers (λ s x. goes_to_page (next_in q) left s)) s t _ a _ (page_load s) (again (record { left = left; search = true })) _ _ c.read_page.result _ c.done-2.result c.done-2.ensures.ok c.done-2.ensures.err d.ok d.err d.follows d.keeps
    (λ b. then_not _ _ _ (quiet ∙ read_over s empty (d.big.0 b)))
    (λ e. then_ok _ t _ _ (quiet ∙ read_within s empty (within_by (length t.text) TEXT_LIMIT _ d.big.1 e)) refl) (ap (λ (n : ℤ). again (record { left = n; search = true })) same) refl
