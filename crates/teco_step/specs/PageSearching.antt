-- Searches over pages: a page is searched in one step, and turned or read in the next.
use Rattle.std.specs.Prelude.{ℕ, Bool, true, false, List, [], length, Option, None, Some, Result, Ok, ℤ, pos, ◌-ℤ◌, if◌then◌else◌}
use Rattle.teco_core.specs.declared.code.Code.{Code}
use Rattle.teco_core.specs.declared.code.Code.TheVariants.{Isa}
use Rattle.teco_core.specs.Refusal.{◌>>=◌}
use Rattle.teco_core.specs.Arguments.{Arguments, no_arguments}
use Rattle.teco_search.specs.Occurrence.{Sought, Span, forward, occurrence}
use Rattle.teco_store.specs.Page.{is_input_over, page_load}
use Rattle.teco_store.specs.State.{State}
use Rattle.teco_step.specs.declared.next.Work.{Work}
use Rattle.teco_step.specs.Pages.{above_zero, with_page_read, with_page_turned}
use Rattle.teco_step.specs.Searching.{fails, notes, sought, succeeds}
use Rattle.teco_step.specs.Step.{Attempt, Setting, again, takes_one_or}

-- The occurrences that are wanted: those that an earlier step left; or n; or one.
abbrev pub asked : Option Work → Arguments → Result ℤ Code
asked (Some work) a = Ok work.left
asked None a = takes_one_or (pos 1) a

-- They are above 0, else ISA.
abbrev pub wanted : Option Work → Arguments → Result ℤ Code
wanted work a = do
  n ← asked work a
  above_zero Isa n

-- those of n that are wanted still where the page has too few
abbrev pub wanted_still : ℤ → Sought → State → ℤ
wanted_still n q s = n -ℤ pos (length (forward q s.text s.pointer))

-- The page has too few. With no input left the search fails, and the page is kept; else the result is noted, and the next page is due.
abbrev pub runs_out : List ℕ → Setting → ℤ → State → Arguments → Attempt
runs_out text w left s a =
    if is_input_over s then fails text w s a
    else notes text false 0 no_arguments (again (record { left = left; search = false })) s

-- The pointer goes after the last occurrence that is wanted, where the page has it.
abbrev pub page_searched : List ℕ → Setting → ℤ → Sought → Option Span → State → Arguments → Attempt
page_searched text w n q (Some m) s a = succeeds text w m.1 s
page_searched text w n q None s a = runs_out text w (wanted_still n q s) s a

-- The page in the buffer is searched from the pointer.
abbrev pub search_page : List ℕ → Setting → State → Arguments → Attempt
search_page text w s a = do
  n ← wanted w.work a
  q ← sought text s
  page_searched text w n q (occurrence q s.text s.pointer n) s a

-- The next page comes in, and its search is a further step.
abbrev pub goes_to_page : (State → Result State Code) → ℤ → State → Attempt
goes_to_page with_next left s = do
  t ← with_next s
  Ok (record {
    state = t;
    arguments = no_arguments;
    typed = [];
    load = page_load s;
    end = again (record { left = left; search = true });
  })

-- how the next page comes in: quietly it is read, and else the page is turned
abbrev pub next_in : Bool → State → Result State Code
next_in true s = with_page_read s
next_in false s = with_page_turned s

-- a step of such a search: its first, or the one that an earlier step left
abbrev pub step_of : (State → Result State Code) → Option Work → List ℕ → Setting → State → Arguments
    → Attempt
step_of with_next None text w s a = search_page text w s a
step_of with_next (Some work) text w s a = if work.search then search_page text w s a
    else goes_to_page with_next work.left s

-- nN and n_: look for the nth occurrence from the pointer on, in the buffer and in the pages after it. N turns pages, and _ reads them.
abbrev pub search_pages : (State → Result State Code) → List ℕ → Setting → State → Arguments → Attempt
search_pages with_next text w s a = step_of with_next w.work text w s a
