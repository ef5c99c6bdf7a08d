-- Pages of the input, what is written to the output, and the exit.
use Rattle.std.specs.Prelude.{ℕ, Bool, true, false, [], length, Option, None, Some, Result, Ok, Err, ℤ, pos, ◌-ℤ◌, nat_le, int_le, not, ◌==◌, ◌&&◌, if◌then◌else◌}
use Rattle.teco_core.specs.declared.code.Code.{Code}
use Rattle.teco_core.specs.declared.code.Code.TheVariants.{Arg, Big, Ipa, Yca}
use Rattle.teco_core.specs.declared.arguments.Taken.{Taken}
use Rattle.teco_core.specs.declared.arguments.Taken.TheVariants as taken
use Rattle.teco_core.specs.declared.limits.TheConstants.{FILE_LIMIT}
use Rattle.teco_core.specs.Refusal.{◌>>=◌}
use Rattle.teco_core.specs.Arguments.{Arguments, no_arguments, taken_from}
use Rattle.teco_scan.specs.declared.command.Modifiers.{Modifiers}
use Rattle.teco_store.specs.Page.{is_input_over, page, page_load, with_page, with_more, with_next_page, with_range_written, finished}
use Rattle.teco_store.specs.State.{State}
use Rattle.teco_step.specs.declared.next.Work.{Work}
use Rattle.teco_step.specs.Editing.{with_text_in_limit}
use Rattle.teco_step.specs.Searching.{answer}
use Rattle.teco_step.specs.Step.{Attempt, Made, End, on, out, again, changes, edits, reached, takes_none, takes_one_or}

-- A state whose output is within its limit; else BIG.
abbrev pub with_output_in_limit : State → Result State Code
with_output_in_limit s = if nat_le (length s.output) FILE_LIMIT then Ok s else Err Big

-- whether there is a page to read
abbrev pub has_page : State → Bool
has_page s = not (is_input_over s)

-- What a command leaves that reads a page: where it is asked for, whether there was one.
abbrev pub tells : Bool → State → Arguments
tells asked s = if asked then answer (has_page s) else no_arguments

-- The next page replaces the buffer, which must be empty, else YCA.
abbrev pub with_page_read : State → Result State Code
with_page_read s = if length s.text == 0 then with_text_in_limit (with_page s) else Err Yca

-- Y: reads the next page. With a colon it gives whether there was one.
abbrev pub next_page : Modifiers → State → Arguments → Made
next_page m s a = do
  none ← takes_none a
  t ← with_page_read s
  edits t (tells (m.colons == 1) s) (page_load s)

-- A, where the level is empty: the next page comes after the buffer's text. With a colon it gives whether there was one.
abbrev pub append_page : Modifiers → State → Arguments → Made
append_page m s a = do
  none ← takes_none a
  t ← with_text_in_limit (with_more s)
  edits t (tells (m.colons == 1) s) (length (page s))

-- The page in the buffer is written, and the next one replaces it.
abbrev pub with_page_turned : State → Result State Code
with_page_turned s = do
  t ← with_output_in_limit (with_next_page s)
  with_text_in_limit t

-- a number above 0, or this code
abbrev pub above_zero : Code → ℤ → Result ℤ Code
above_zero c n = if int_le n (pos 0) then Err c else Ok n

-- The pages that are to be turned: what is left of them after an earlier step; or n, else IPA; or one.
abbrev pub pages_left : Option Work → Arguments → Result ℤ Code
pages_left (Some work) a = Ok work.left
pages_left None a = do
  n ← takes_one_or (pos 1) a
  above_zero Ipa n

-- Of so many pages one is turned; the others are further steps.
abbrev pub after_page : ℤ → End
after_page n = if int_le n (pos 1) then on else again (record { left = n -ℤ pos 1; search = false })

-- Whether a step of P gives an answer: with a colon that of the last page does.
abbrev pub is_asked : Modifiers → ℤ → Bool
is_asked m n = m.colons == 1 && int_le n (pos 1)

-- nP: turns n pages, each in a step of its own. With a colon it gives whether there was a last one to read.
abbrev pub turn_pages : Modifiers → Option Work → State → Arguments → Attempt
turn_pages m work s a = do
  n ← pages_left work a
  t ← with_page_turned s
  Ok (record {
    state = t;
    arguments = tells (is_asked m n) s;
    typed = [];
    load = page_load s;
    end = after_page n;
  })

-- The bytes between two places are written, and a form feed where one is asked for.
abbrev pub writes : ℕ → ℕ → Bool → State → Arguments → Made
writes low high form_feed s a = do
  t ← with_output_in_limit (with_range_written s low high form_feed)
  changes t 0

-- What PW writes: all of the buffer and a form feed; or the range m,n alone.
abbrev pub writes_taken : Taken → State → Arguments → Made
writes_taken taken.None s a = writes 0 (length s.text) true s a
writes_taken (taken.One n) s a = Err Arg
writes_taken (taken.Two m n) s a = do
  r ← reached s (taken.Two m n)
  writes r.low r.high false s a

abbrev pub write_page : State → Arguments → Made
write_page s a = do
  t ← taken_from a
  writes_taken t s a

-- EX: the page in the buffer and the rest of the input are written, and the session is done.
abbrev pub exit : State → Arguments → Attempt
exit s a = do
  none ← takes_none a
  t ← with_output_in_limit (finished s)
  Ok (record { state = t; arguments = no_arguments; typed = []; load = length s.text; end = out })
