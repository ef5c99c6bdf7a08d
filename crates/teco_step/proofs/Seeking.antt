-- What a search does: its load is what it moves.
use Rattle.std.proofs.Common.{◌≡◌, ◌∙◌, refl, ℕ, ◌+◌, ◌-◌, ◌≤◌, min, max, Bool, true, false, List, [], length, Option, None, Some, Result, Ok, ℤ, arith}
use Rattle.std.specs.Prelude.{nat_le}
use Rattle.teco_core.specs.declared.code.Code.{Code}
use Rattle.teco_core.specs.declared.code.Code.TheVariants as code
use Rattle.teco_core.specs.declared.limits.TheConstants.{TEXT_LIMIT}
use Rattle.teco_core.specs.Arguments.{Arguments, no_arguments}
use Rattle.teco_search.specs.Occurrence.{Sought, Span, occurrence}
use Rattle.teco_store.specs.Page.{is_input_over, page_load, with_next_page, with_page}
use Rattle.teco_store.specs.Search.{length_of, note_load, noted, replaced_noted}
use Rattle.teco_store.specs.State.{State}
use Rattle.teco_step.specs.Editing.{with_text_in_limit}
use Rattle.teco_step.specs.Load.{Moves}
use Rattle.teco_step.specs.Pages.{with_page_read, with_page_turned}
use Rattle.teco_step.specs.PageSearching.{goes_to_page, page_searched, runs_out, search_page, search_pages, step_of, wanted, wanted_still}
use Rattle.teco_step.specs.Searching.{answer, answers, compare, compare_and_replace, compared, compared_and_replaced, end_failed, fails, found, killed_or_not, matched, noted_text, notes, replace, replaced_or_not, replaces, search, search_and_kill, search_and_replace, search_or_compare, searched, sought, with_search_in_limit}
use Rattle.teco_step.specs.declared.next.Setting.{Setting}
use Rattle.teco_step.specs.Step.{End, again, on, takes_none}
use Rattle.teco_step.specs.declared.next.Work.{Work}
use Rattle.teco_step.proofs.Moving.{note_moves, page_moves, replacement_moves, turn_moves}
use Rattle.teco_step.proofs.Occurring.{Backward, Forward, Lies, Long, Spelled, found_lies, matched_lies}
use Rattle.teco_step.proofs.Reaching.{rising_lies}
use Rattle.teco_step.proofs.Working.{AttemptWorks, attempt_if, attempt_then, limit_by, read_is, text_is, turned_is, within_limit}

search_is : (u t : State) → with_search_in_limit u ≡ Ok t → u ≡ t
search_is u t e = limit_by (nat_le (length_of u.last_search) TEXT_LIMIT) code.Big u t e

notes_works : (text : List ℕ) (is_found : Bool) (place : ℕ) (a : Arguments) (end : End) (s : State) → AttemptWorks s (notes text is_found place a end s)
notes_works text is_found place a end s =
    let u : State = noted s (noted_text text) is_found place in
    attempt_then s (with_search_in_limit u) _ (λ t e. within_limit s u t (note_load s (noted_text text)) (search_is u t e) refl (λ within. note_moves s (noted_text text) is_found place))

searched_works : (text : List ℕ) (w : Setting) (m : Option Span) (s : State) (a : Arguments) → AttemptWorks s (searched text w m s a)
searched_works text w None s a = notes_works text false 0 (answers w false) (end_failed w) s
searched_works text w (Some m) s a = notes_works text true m.1 (answers w true) on s

compared_works : (text : List ℕ) (end : Option ℕ) (s : State) → AttemptWorks s (compared text end s)
compared_works text None s = notes_works text false s.pointer (answer false) on s
compared_works text (Some end) s = notes_works text true end (answer true) on s

search_works : (text : List ℕ) (w : Setting) (s : State) (a : Arguments) → AttemptWorks s (search text w s a)
search_works text w s a = attempt_then s (found text s a) _ (λ m e. searched_works text w m s a)

compare_works : (text : List ℕ) (s : State) (a : Arguments) → AttemptWorks s (compare text s a)
compare_works text s a = attempt_then s (takes_none a) _ (λ none e. attempt_then s (matched text s) _ (λ end h. compared_works text end s))

pub seeks : (text : List ℕ) (w : Setting) (s : State) (a : Arguments) → AttemptWorks s (search_or_compare text w s a)
seeks text w s a = attempt_if s _ (compare text s a) (search text w s a) (compare_works text s a) (search_works text w s a)

-- replacements
there_by : (from to n : ℕ) → (from ≤ to) × (to ≤ n) → from + (to - from) ≤ n
there_by from to n lies = omega (arith, lies.0, lies.1)

replaces_works : (text bytes : List ℕ) (a : Arguments) (from to : ℕ) (s : State) → (s.pointer ≤ length s.text → (from ≤ to) × (to ≤ length s.text)) → AttemptWorks s (replaces text bytes a from to s)
replaces_works text bytes a from to s lies =
    let u : State = replaced_noted s (noted_text text) from (to - from) bytes in
    let load : ℕ = note_load s (noted_text text) + ((to - from) + length bytes) in
    attempt_then s (with_text_in_limit u) _ (λ t e. attempt_then s (with_search_in_limit t) _ (λ v h.
    within_limit s u v load (text_is u t e ∙ search_is t v h) refl (λ within. replacement_moves s (noted_text text) from (to - from) bytes (there_by from to (length s.text) (lies within)))))

module _ (long : Long) (is_forward : Forward) (is_backward : Backward) (spelled : Spelled) where
  replaced_works : (text bytes : List ℕ) (w : Setting) (m : Option Span) (s : State) (a : Arguments) → found text s a ≡ Ok m → AttemptWorks s (replaced_or_not text bytes w m s a)
  replaced_works text bytes w None s a e = searched_works text w None s a
  replaced_works text bytes w (Some m) s a e = replaces_works text bytes (answers w true) m.0 m.1 s (λ within. found_lies long is_forward is_backward spelled text s a m e)

  pub seeks_and_replaces : (text bytes : List ℕ) (w : Setting) (s : State) (a : Arguments) → AttemptWorks s (search_and_replace text bytes w s a)
  seeks_and_replaces text bytes w s a = attempt_then s (found text s a) _ (λ m e. replaced_works text bytes w m s a e)

  compared_and_replaced_works : (text bytes : List ℕ) (end : Option ℕ) (s : State) → matched text s ≡ Ok end → AttemptWorks s (compared_and_replaced text bytes end s)
  compared_and_replaced_works text bytes None s e = compared_works text None s
  compared_and_replaced_works text bytes (Some end) s e =
      replaces_works text bytes (answer true) s.pointer end s (λ within. matched_lies long is_forward is_backward spelled text s end e)

  compare_and_replace_works : (text bytes : List ℕ) (s : State) (a : Arguments) → AttemptWorks s (compare_and_replace text bytes s a)
  compare_and_replace_works text bytes s a = attempt_then s (takes_none a) _ (λ none e. attempt_then s (matched text s) _ (λ end h. compared_and_replaced_works text bytes end s h))

  pub replaces_or_compares : (text bytes : List ℕ) (w : Setting) (s : State) (a : Arguments) → AttemptWorks s (replace text bytes w s a)
  replaces_or_compares text bytes w s a =
      attempt_if s _ (compare_and_replace text bytes s a) (search_and_replace text bytes w s a) (compare_and_replace_works text bytes s a) (seeks_and_replaces text bytes w s a)

  killed_works : (text : List ℕ) (w : Setting) (m : Option Span) (s : State) (a : Arguments) → found text s a ≡ Ok m → AttemptWorks s (killed_or_not text w m s a)
  killed_works text w None s a e = searched_works text w None s a
  killed_works text w (Some m) s a e =
      let lies : Lies s m = found_lies long is_forward is_backward spelled text s a m e in
      replaces_works text [] (answers w true) (min s.pointer m.1) (max s.pointer m.1) s (λ within. rising_lies s.pointer m.1 (length s.text) within lies.1)

  pub seeks_and_kills : (text : List ℕ) (w : Setting) (s : State) (a : Arguments) → AttemptWorks s (search_and_kill text w s a)
  seeks_and_kills text w s a = attempt_then s (found text s a) _ (λ m e. killed_works text w m s a e)

-- over pages
runs_out_works : (text : List ℕ) (w : Setting) (left : ℤ) (s : State) (a : Arguments) → AttemptWorks s (runs_out text w left s a)
runs_out_works text w left s a =
    let work : Work = record { left = left; search = false } in
    attempt_if s (is_input_over s) (fails text w s a) (notes text false 0 no_arguments (again work) s) (searched_works text w None s a) (notes_works text false 0 no_arguments (again work) s)

page_searched_works : (text : List ℕ) (w : Setting) (n : ℤ) (q : Sought) (m : Option Span) (s : State) (a : Arguments) → AttemptWorks s (page_searched text w n q m s a)
page_searched_works text w n q (Some m) s a = searched_works text w (Some m) s a
page_searched_works text w n q None s a = runs_out_works text w (wanted_still n q s) s a

page_works : (text : List ℕ) (w : Setting) (s : State) (a : Arguments) → AttemptWorks s (search_page text w s a)
page_works text w s a =
    attempt_then s (wanted w.work a) _ (λ n e. attempt_then s (sought text s) _ (λ q h. page_searched_works text w n q (occurrence q s.text s.pointer n) s a))

-- a page that comes in by a change whose load is that of a page
module _ (with_next : State → Result State Code) (u : State → State) (is : (s t : State) → with_next s ≡ Ok t → u s ≡ t) (keeps : (s : State) → (u s).profile ≡ s.profile) (brings : (s : State) → Moves s (u s) (page_load s)) where
  goes_works : (left : ℤ) (s : State) → AttemptWorks s (goes_to_page with_next left s)
  goes_works left s = attempt_then s (with_next s) _ (λ t e. within_limit s (u s) t (page_load s) (is s t e) (keeps s) (λ within. brings s))

  step_works : (work : Option Work) (text : List ℕ) (w : Setting) (s : State) (a : Arguments) → AttemptWorks s (step_of with_next work text w s a)
  step_works None text w s a = page_works text w s a
  step_works (Some work) text w s a = attempt_if s work.search _ _ (page_works text w s a) (goes_works work.left s)

  over_pages : (text : List ℕ) (w : Setting) (s : State) (a : Arguments) → AttemptWorks s (search_pages with_next text w s a)
  over_pages text w s a = step_works w.work text w s a

pub seeks_turning : (text : List ℕ) (w : Setting) (s : State) (a : Arguments) → AttemptWorks s (search_pages with_page_turned text w s a)
seeks_turning text w s a = over_pages with_page_turned with_next_page turned_is (λ s. refl) turn_moves text w s a

pub seeks_reading : (text : List ℕ) (w : Setting) (s : State) (a : Arguments) → AttemptWorks s (search_pages with_page_read text w s a)
seeks_reading text w s a = over_pages with_page_read with_page read_is (λ s. refl) page_moves text w s a
