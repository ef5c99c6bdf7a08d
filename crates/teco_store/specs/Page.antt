-- Pages: the input is read, and the output written, page by page.
use Rattle.std.specs.Prelude.{◌≡◌, ℕ, ◌≤◌, ◌+◌, ◌-◌, Bool, true, false, List, [], ◌∷◌, ◌++◌, length, take, drop, ◌==◌, ◌&&◌, if◌then◌else◌}
use Rattle.teco_core.specs.Ascii.{is_line_end}
use Rattle.teco_store.specs.State.{Body, State, StateOver, replaced}
use Rattle.teco_store.specs.declared.pages.TheConstants.{FORM_FEED}

-- whether a byte ends the last of so many lines; of 0 lines none is the last
abbrev pub ends_lines : ℕ → ℕ → Bool
ends_lines lines b = is_line_end b && lines == 1

-- how many of so many lines are left after a byte; of 0, which is any number, 0
abbrev pub lines_after : ℕ → ℕ → ℕ
lines_after lines b = if is_line_end b then lines - 1 else lines

-- A page is what is left of the input, up to its first form feed, or up to and with the end of the line of this number, if that comes
-- first; 0 is the number of no line.
unfoldable pub page_of : ℕ → List ℕ → List ℕ
page_of lines [] = []
page_of lines (b ∷ bs) =
    if b == FORM_FEED then []
    else (b ∷ (if ends_lines lines b then [] else page_of (lines_after lines b) bs))

-- Whether a form feed ends it. One right after the last of its lines doesn't: it ends the next page, which is empty.
abbrev pub is_ended : ℕ → List ℕ → Bool
is_ended lines [] = false
is_ended lines (b ∷ bs) =
    if b == FORM_FEED then true
    else (if ends_lines lines b then false else is_ended (lines_after lines b) bs)

-- the bytes that reading it takes, its form feed too
abbrev pub page_span : ℕ → List ℕ → ℕ
page_span lines left = length (page_of lines left) + (if is_ended lines left then 1 else 0)

-- what is left of the input
abbrev pub left_of : {O : Type 0} → StateOver O → List ℕ
left_of s = drop s.place s.input

-- what of it was read
abbrev pub read_of : {O : Type 0} → StateOver O → List ℕ
read_of s = take s.place s.input

abbrev pub is_input_over : {O : Type 0} → StateOver O → Bool
is_input_over s = s.place == length s.input

-- the next page
abbrev pub page : {O : Type 0} → StateOver O → List ℕ
page s = page_of s.page_lines (left_of s)

-- The place is after the next page and its form feed, and the flag says whether it had one.
abbrev pub past_page : {O : Type 0} → StateOver O → StateOver O
past_page s = record s {
  place = s.place + page_span s.page_lines (left_of s);
  form_feed = is_ended s.page_lines (left_of s);
}

-- The next page replaces the buffer; the pointer is at its beginning.
abbrev pub with_page : State → State
with_page s = record (past_page s) { text = page s; pointer = 0 }

-- The next page comes after the buffer's text, and the pointer stays. With no input left nothing changes.
abbrev pub with_more : State → State
with_more s = if is_input_over s then s else record (past_page s) { text = s.text ++ page s }

-- a form feed, where one is to be written
abbrev pub form_feed_if : Bool → List ℕ
form_feed_if true = FORM_FEED ∷ []
form_feed_if false = []

-- the page that is in the buffer as it goes to the output: with a form feed where one ended it
abbrev pub written : State → List ℕ
written s = s.text ++ form_feed_if s.form_feed

-- The page in the buffer stands in the input as it was read, from a place on: it and its form feed end what was read.
abbrev pub IsAsRead : {O : Type 0} → StateOver O → ℕ → Type 0
IsAsRead s from = (from ≤ length (read_of s)) × (drop from (read_of s) ≡ s.text ++ form_feed_if s.form_feed)

abbrev pub with_output : State → List ℕ → State
with_output s bytes = record s { output = s.output ++ bytes }

-- The page in the buffer is written, and the next one replaces it.
abbrev pub with_next_page : State → State
with_next_page s = with_output (with_page s) (written s)

-- The bytes between two places are written, with a form feed where one is asked for.
abbrev pub with_range_written : State → ℕ → ℕ → Bool → State
with_range_written s low high form_feed = with_output s
    (drop low (take high s.text) ++ form_feed_if form_feed)

-- The page in the buffer is written, then the rest of the input as it is, and the session is done.
abbrev pub finished : State → State
finished s =
    record (with_output s (written s
    ++ left_of s)) { text = []; pointer = 0; place = length s.input; form_feed = false; is_done = true }

-- the load of a page that replaces the buffer
abbrev pub page_load : State → ℕ
page_load s = length s.text + length (page s)

-- The next page comes for the `there` bytes at `at`; the pointer is put at a place, and the output ends at `end`.
abbrev pub brought : Body → ℕ → ℕ → ℕ → ℕ → Body
brought b at there pointer end = record
    (past_page b) { text = replaced b.text at (at + there) (page b); pointer = pointer; output = end }
