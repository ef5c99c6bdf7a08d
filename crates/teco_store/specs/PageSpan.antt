-- What is known of the page that comes next.
use Rattle.std.specs.Prelude.{◌≡◌, ◌+◌, ◌≤◌, length}
use Rattle.teco_store.specs.Page.{is_ended, left_of, page, page_span}
use Rattle.teco_store.specs.State.{Body}
use Rattle.teco_store.specs.Turn.{lent}
use Rattle.teco_store.specs.declared.pages.PageSpan.{PageSpan}

-- It has so many bytes, a form feed ends it or none does, and with that it is within the input. The next bytes of the input are it.
pub record IsPageSpan (span : PageSpan) (b : Body) : Type 0 where
  pub len : span.len ≡ length (page b)
  pub form_feed : span.form_feed ≡ is_ended b.page_lines (left_of b)
  pub within : b.place + page_span b.page_lines (left_of b) ≤ length b.input
  pub read : lent b.input b.place span.len ≡ page b
