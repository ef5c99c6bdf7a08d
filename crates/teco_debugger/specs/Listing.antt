-- What is shown of the parts of a state.
use Rattle.std.specs.Prelude.{ℕ, ◌-◌, ◌==◌, Bool, false, ◌&&◌, List, [], ◌∷◌, ◌++◌, length, take, drop, min, max, codes, slice_index, nat_lt, if◌then◌else◌, Option, Some, None, ℤ, pos, negsuc, ◌-ℤ◌}
use Rattle.std.specs.Fmt.{decimal, signed_decimal}
use Rattle.std.specs.List.{flat_map}
use Rattle.teco_core.specs.Register.{Content, content, register_of}
use Rattle.teco_core.specs.declared.case_mode.CaseMode.{CaseMode}
use Rattle.teco_core.specs.declared.case_mode.CaseMode.TheVariants.{Either, Exact}
use Rattle.teco_core.specs.declared.profile.Profile.{Profile}
use Rattle.teco_core.specs.declared.profile.Profile.TheVariants.{Named, Wide}
use Rattle.teco_step.specs.Line.{line}
use Rattle.teco_store.specs.State.{State}
use Rattle.teco_messages.specs.Placed.{register_name}
use Rattle.teco_messages.specs.Spelling.{spelled, spelling}
use Rattle.teco_debugger.specs.declared.listing.TheConstants.{MOST_SHOWN}
use Prim.Native.Char.{code}

-- a line feed begins a new line, and every other byte is spelled
abbrev pub shown_in_lines : ℕ → List ℕ
shown_in_lines b = if b == code "\n" then codes "\n" else spelling b

abbrev pub lines_shown : List ℕ → List ℕ
lines_shown bytes = flat_map shown_in_lines bytes

-- with a line feed at the end, if there is none
abbrev pub is_line_ended : List ℕ → Bool
is_line_ended shown = nat_lt 0 (length shown) && slice_index shown (length shown - 1) == code "\n"

abbrev pub with_line_end : List ℕ → List ℕ
with_line_end shown = if is_line_ended shown then shown else shown ++ codes "\n"

-- how many lines are shown each way: at least one, and at most 1000
abbrev pub lines_each_way : ℕ → ℕ
lines_each_way n = max (min n 1000) 1

-- the lines of the buffer up to the pointer's and from it on, so many each way, with a mark where the pointer is
abbrev pub text_shown : List ℕ → ℕ → ℕ → List ℕ
text_shown text pointer lines =
    lines_shown (drop (line text pointer (pos 1 -ℤ pos lines)) (take pointer text)) ++ codes "|>"
    ++ lines_shown (drop pointer (take (line text pointer (pos lines)) text))

-- as many lines as are asked for, the last of them ended
abbrev pub lines_there_shown : State → ℕ → List ℕ
lines_there_shown s n = with_line_end (text_shown s.text s.pointer (lines_each_way n))

-- what comes after a register's number: its text, of which so many bytes are shown
abbrev pub rest_shown : ℕ → ℕ → List ℕ
rest_shown len most = if nat_lt most len then codes " .. " ++ decimal len ++ codes " bytes" else []

abbrev pub held_shown : List ℕ → ℕ → List ℕ
held_shown [] most = []
held_shown (b ∷ bytes) most =
    codes ", " ++ spelled (take most (b ∷ bytes)) ++ rest_shown (length (b ∷ bytes)) most

-- a register: its letter, its number and its text
abbrev pub register_shown : List Content → ℕ → ℕ → List ℕ
register_shown registers q most =
    let c : Content = content registers q in
    register_name q ∷ codes ": " ++ signed_decimal c.number ++ held_shown c.text most ++ codes "\n"

-- with all of its text
abbrev pub whole_register : List Content → ℕ → List ℕ
whole_register registers q = register_shown registers q (length (content registers q).text)

-- the register holds the number 0 and no text
abbrev pub is_nought : ℤ → Bool
is_nought (pos n) = n == 0
is_nought (negsuc n) = false

abbrev pub is_blank_content : Content → Bool
is_blank_content c = is_nought c.number && length c.text == 0

-- the register of this name, if it holds anything
abbrev pub if_held_shown : List Content → Option ℕ → List ℕ
if_held_shown registers None = []
if_held_shown registers (Some q) =
    if is_blank_content (content registers q) then [] else register_shown registers q MOST_SHOWN

-- all that hold anything
abbrev pub registers_shown : List Content → List ℕ
registers_shown registers =
    flat_map (λ b. if_held_shown registers (register_of b)) (codes "ABCDEFGHIJKLMNOPQRSTUVWXYZ0123456789")

-- whether the last search found its text
unfoldable pub found_shown : Bool → List ℕ
found_shown found = if found then codes ", found\n" else codes ", not found\n"

unfoldable pub last_shown : List ℕ → Bool → List ℕ
last_shown text found = codes "last search " ++ (spelled text ++ found_shown found)

unfoldable pub search_shown : Option (List ℕ) → Bool → List ℕ
search_shown None found = codes "no search yet\n"
search_shown (Some text) found = last_shown text found

-- a line that is shown only if something is so
unfoldable pub line_if : Bool → List ℕ → List ℕ
line_if so words = if so then words ++ codes "\n" else []

unfoldable pub case_shown : CaseMode → List ℕ
case_shown Exact = codes "searches tell the cases of a letter apart\n"
case_shown Either = []

-- the language, where it is the wider one
unfoldable pub language_shown : Profile → List ℕ
language_shown Named = []
language_shown Wide = codes "strings are read in the wider language\n"

-- where the pointer is, in how long a text
unfoldable pub pointer_shown : ℕ → ℕ → List ℕ
pointer_shown pointer len = codes "pointer " ++ decimal pointer ++ codes " of " ++ decimal len ++ codes "\n"

-- how much was read and written
unfoldable pub read_shown : ℕ → List ℕ
read_shown place = codes "input " ++ decimal place ++ codes " bytes read"

unfoldable pub written_shown : ℕ → List ℕ
written_shown output = codes ", output " ++ decimal output ++ codes " bytes written" ++ codes "\n"

unfoldable pub pushed_shown : ℕ → List ℕ
pushed_shown count = codes "pushed " ++ decimal count ++ codes "\n"

-- how much there is of the text, the input, the output and the push-down list
unfoldable pub sizes_shown : State → List ℕ
sizes_shown s =
    pointer_shown s.pointer (length s.text) ++ read_shown s.place ++ written_shown (length s.output)
    ++ pushed_shown (length s.pushed)

unfoldable pub page_end_shown : State → List ℕ
page_end_shown s = line_if s.form_feed (codes "a form feed ended the page")

unfoldable pub mode_shown : State → List ℕ
mode_shown s = case_shown s.case_mode

unfoldable pub done_shown : State → List ℕ
done_shown s = line_if s.is_done (codes "the session is done")

unfoldable pub last_search_shown : State → List ℕ
last_search_shown s = search_shown s.last_search s.last_found

-- how the page ended, how a search takes letters, and whether the session is done
unfoldable pub flags_shown : State → List ℕ
flags_shown s = page_end_shown s ++ mode_shown s ++ done_shown s

-- the rest of the state
unfoldable pub state_shown : State → List ℕ
state_shown s = sizes_shown s ++ last_search_shown s ++ language_shown s.profile ++ flags_shown s
