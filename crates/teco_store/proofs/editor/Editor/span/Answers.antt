use Rattle.std.proofs.Common.{length, subst}
use Rattle.teco_store.specs.PageSpan.{IsPageSpan}
use Rattle.teco_store.specs.State.{Full}
use Rattle.teco_store.specs.View.{body_in}
use Rattle.teco_store.specs.declared.pages.PageSpan.{PageSpan}
use Rattle.teco_store.proofs.Loans.{span_is}
use Rattle.teco_store.proofs.editor.Editor.span.Goals as goal

pub returns-clause-span : goal.returns-clause-span
returns-clause-span c =
    let page = c.next_page-page in
    let span : PageSpan = record { len = length page.result.bytes.now; form_feed = page.result.form_feed } in
    subst (λ (f : Full). IsPageSpan span f.body) c.self.view_is
    (span_is (body_in c.self.inside) c.deref.result.now page.result.bytes.now page.result.form_feed c.deref.ensures.value c.self.invariant.0.place
    (page.ensures.bytes, page.ensures.form_feed, page.ensures.within))
