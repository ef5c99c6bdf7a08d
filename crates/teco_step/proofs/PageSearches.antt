-- How a search over pages ends: it goes on or fails, or has a further step; and it leaves the session as done as it was.
use Rattle.std.proofs.Common.{inr, refl, ℕ, List, length, Option, None, Some, Result, Ok, Err, ℤ, true, false, cond}
use Rattle.std.specs.Prelude.{◌==◌, nat_le}
use Rattle.teco_core.specs.declared.code.Code.{Code}
use Rattle.teco_core.specs.declared.code.Code.TheVariants.{Yca}
use Rattle.teco_core.specs.declared.limits.TheConstants.{FILE_LIMIT}
use Rattle.teco_core.specs.Refusal.{◌>>=◌}
use Rattle.teco_core.specs.Arguments.{Arguments, no_arguments}
use Rattle.teco_search.specs.Occurrence.{Sought, Span, occurrence}
use Rattle.teco_store.specs.Page.{is_input_over, with_next_page, with_page}
use Rattle.teco_store.specs.State.{State}
use Rattle.teco_step.specs.Editing.{with_text_in_limit}
use Rattle.teco_step.specs.Pages.{with_output_in_limit, with_page_read, with_page_turned}
use Rattle.teco_step.specs.PageSearching.{wanted, wanted_still, runs_out, page_searched, search_page, goes_to_page, step_of, search_pages}
use Rattle.teco_step.specs.Searching.{sought}
use Rattle.teco_step.specs.declared.next.Setting.{Setting}
use Rattle.teco_step.specs.Step.{again}
use Rattle.teco_step.specs.declared.next.Work.{Work}
use Rattle.teco_step.proofs.Searches.{Searches, KeepsDone, if_keeps, text_keeps, then_searches, if_searches, state_searches, notes_searches, searched_searches}

runs_out_searches : (text : List ℕ) (w : Setting) (left : ℤ) (s : State) (a : Arguments) → Searches true s (runs_out text w left s a)
runs_out_searches text w left s a =
    let work : Work = record { left = left; search = false } in
    if_searches true s (is_input_over s) _ _ (searched_searches true text w None s a) (notes_searches true text false 0 no_arguments (again work) s (inr (inr (refl, work, refl))))

page_searched_searches : (text : List ℕ) (w : Setting) (n : ℤ) (q : Sought) (m : Option Span) (s : State) (a : Arguments) → Searches true s (page_searched text w n q m s a)
page_searched_searches text w n q (Some m) s a = searched_searches true text w (Some m) s a
page_searched_searches text w n q None s a = runs_out_searches text w (wanted_still n q s) s a

page_searches : (text : List ℕ) (w : Setting) (s : State) (a : Arguments) → Searches true s (search_page text w s a)
page_searches text w s a =
    then_searches true s (wanted w.work a) _ (λ n. then_searches true s (sought text s) _ (λ q. page_searched_searches text w n q (occurrence q s.text s.pointer n) s a))

-- a page that comes in by a change which keeps what is done
module _ (with_next : State → Result State Code) (keeps : (s : State) → KeepsDone s (with_next s)) where
  goes_searches : (left : ℤ) (s : State) → Searches true s (goes_to_page with_next left s)
  goes_searches left s =
      let work : Work = record { left = left; search = true } in
      state_searches true s (with_next s) _ (keeps s) (λ t same. (inr (inr (refl, work, refl)), same))

  step_searches : (work : Option Work) (text : List ℕ) (w : Setting) (s : State) (a : Arguments) → Searches true s (step_of with_next work text w s a)
  step_searches None text w s a = page_searches text w s a
  step_searches (Some work) text w s a = if_searches true s work.search _ _ (page_searches text w s a) (goes_searches work.left s)

  over_pages : (text : List ℕ) (w : Setting) (s : State) (a : Arguments) → Searches true s (search_pages with_next text w s a)
  over_pages text w s a = step_searches w.work text w s a

turned_in_limit : (s : State) (r : Result State Code) → KeepsDone s r → KeepsDone s (r >>= with_text_in_limit)
turned_in_limit s (Ok t) h = text_keeps s t h
turned_in_limit s (Err c) h = tt

turning_keeps : (s : State) → KeepsDone s (with_page_turned s)
turning_keeps s = turned_in_limit s (with_output_in_limit (with_next_page s)) (if_keeps s (with_next_page s) (nat_le (length (with_next_page s).output) FILE_LIMIT) refl)

reading_keeps : (s : State) → KeepsDone s (with_page_read s)
reading_keeps s = elim (length s.text == 0) as (λ b. KeepsDone s (cond b (with_text_in_limit (with_page s)) (Err Yca))) [ true ↦ text_keeps s (with_page s) refl | false ↦ tt ]

pub turned_searches : (text : List ℕ) (w : Setting) (s : State) (a : Arguments) → Searches true s (search_pages with_page_turned text w s a)
turned_searches text w s a = over_pages with_page_turned turning_keeps text w s a

pub read_searches : (text : List ℕ) (w : Setting) (s : State) (a : Arguments) → Searches true s (search_pages with_page_read text w s a)
read_searches text w s a = over_pages with_page_read reading_keeps text w s a
