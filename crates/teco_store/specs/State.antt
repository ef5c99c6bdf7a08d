-- The editing state, its beginning, and its limits.
use Rattle.std.specs.Prelude.{◌≡◌, ℕ, ◌<◌, ◌≤◌, Bool, false, List, [], ◌∷◌, ◌++◌, ◌+◌, length, take, drop, slice_index_or, Option, Some, None, ℤ}
use Rattle.std.specs.List.{All}
use Rattle.std.specs.Option.{ForSome}
use Rattle.teco_core.specs.declared.case_mode.CaseMode.{CaseMode}
use Rattle.teco_core.specs.declared.case_mode.CaseMode.TheVariants.{Exact}
use Rattle.teco_core.specs.Number.{IsNumber}
use Rattle.teco_core.specs.Register.{Content, blank, blank_registers, content, with_content, with_number, with_text}
use Rattle.teco_core.specs.declared.profile.Profile.{Profile}
use Rattle.teco_core.specs.declared.profile.Profile.TheVariants.{Named}
use Rattle.teco_core.specs.declared.limits.TheConstants.{FILE_LIMIT, PUSHED_LIMIT, TEXT_LIMIT}

-- the parts of the state, with an output of this kind
pub record StateOver (O : Type 0) : Type 0 where
  pub profile : Profile  -- that command strings are read in
  pub text : List ℕ  -- of the buffer
  pub pointer : ℕ  -- from 0 to the text's length
  pub registers : List Content  -- 36, A to Z and 0 to 9
  pub pushed : List Content  -- at most 64, the last pushed first
  pub input : List ℕ
  pub place : ℕ  -- in the input
  pub page_lines : ℕ  -- the lines at which a page ends; 0 for pages of any number of lines
  pub output : O
  pub form_feed : Bool  -- whether a form feed ended the page
  pub last_search : Option (List ℕ)  -- the last search text
  pub last_found : Bool  -- the last search result
  pub is_done : Bool  -- after an exit
  pub case_mode : CaseMode

-- the editing state, whose output is a list of bytes
abbrev pub State : Type 0
State = StateOver (List ℕ)

-- what changes turn: of the output only how many bytes it has
abbrev pub Body : Type 0
Body = StateOver ℕ

-- An editor: what changes turn, the stored output, also beyond the output's end, and the capacity of the buffer. Clauses name the
-- state of an editor by `state_of`.
pub record Full : Type 0 where
  pub body : Body
  pub stored : List ℕ
  pub room : ℕ

-- the state that a body is, where these bytes of output are stored
abbrev pub state_at : List ℕ → Body → State
state_at stored b = record {
  profile = b.profile;
  text = b.text;
  pointer = b.pointer;
  registers = b.registers;
  pushed = b.pushed;
  input = b.input;
  place = b.place;
  page_lines = b.page_lines;
  output = take b.output stored;
  form_feed = b.form_feed;
  last_search = b.last_search;
  last_found = b.last_found;
  is_done = b.is_done;
  case_mode = b.case_mode;
}

-- what the language sees of an editor
abbrev pub state_of : Full → State
state_of f = state_at f.stored f.body

-- an editor with these bytes stored after its output, and with this capacity
abbrev pub with_stored : Full → List ℕ → ℕ → Full
with_stored f more room = record f { stored = take f.body.output f.stored ++ more; room = room }

-- an editor with another body
abbrev pub with_body : Full → Body → Full
with_body f b = record { body = b; stored = f.stored; room = f.room }

-- the same body, with no less capacity, and with other bytes stored beyond the output's end
pub record Extends (f g : Full) : Type 0 where
  pub body : g.body ≡ f.body
  pub stored : take f.body.output g.stored ≡ take f.body.output f.stored
  pub top : f.body.output ≤ length g.stored
  pub room : f.room ≤ g.room

-- where an output of so many bytes ends; none where that is past its limit
abbrev pub IsEnd : Option ℕ → ℕ → Type 0
IsEnd None n = FILE_LIMIT < n
IsEnd (Some end) n = (end ≡ n) × (n ≤ FILE_LIMIT)

-- the beginning, with this output and this input, pages of any number of lines, and the named profile
abbrev pub beginning_over : {O : Type 0} → O → List ℕ → StateOver O
beginning_over output input = record {
  profile = Named;
  text = [];
  pointer = 0;
  registers = blank_registers;
  pushed = [];
  input = input;
  place = 0;
  page_lines = 0;
  output = output;
  form_feed = false;
  last_search = None;
  last_found = false;
  is_done = false;
  case_mode = Exact;
}

-- the beginning, with this input
abbrev pub beginning : List ℕ → State
beginning input = beginning_over [] input

-- a state whose pages end after so many lines. No call changes this number.
abbrev pub with_page_lines : {O : Type 0} → ℕ → StateOver O → StateOver O
with_page_lines lines s = record s { page_lines = lines }

-- a state whose command strings are read in this profile. No call changes it.
abbrev pub with_profile : {O : Type 0} → Profile → StateOver O → StateOver O
with_profile p s = record s { profile = p }

-- the beginning, with pages of so many lines
abbrev pub paged_beginning : ℕ → List ℕ → State
paged_beginning lines input = with_page_lines lines (beginning input)

-- an editor at the beginning, with pages of so many lines
abbrev pub new_paged_full : ℕ → List ℕ → Full
new_paged_full lines input = record {
  body = with_page_lines lines (beginning_over 0 input);
  stored = [];
  room = 0;
}

abbrev pub new_full : List ℕ → Full
new_full input = new_paged_full 0 input

-- each of these texts is within its limit
abbrev pub AreSmall : List Content → Type 0
AreSmall contents = All (λ c. length c.text ≤ TEXT_LIMIT) contents

-- each of these numbers is in the range
abbrev pub AreNumbers : List Content → Type 0
AreNumbers contents = All (λ c. IsNumber c.number) contents

-- The pointer is in the text, the place in the input and the output's end in the `top` bytes that are stored; the registers are all
-- there; each part is within its limit, each number of a register and of the push-down list in its range, and the text within the
-- capacity.
pub record IsSound (capacity top : ℕ) (b : Body) : Type 0 where
  pub pointer : b.pointer ≤ length b.text
  pub text : length b.text ≤ TEXT_LIMIT
  pub room : length b.text ≤ capacity
  pub all : length b.registers ≡ 36
  pub registers : AreSmall b.registers
  pub numbers : AreNumbers b.registers
  pub few : length b.pushed ≤ PUSHED_LIMIT
  pub pushed : AreSmall b.pushed
  pub pushed_numbers : AreNumbers b.pushed
  pub place : b.place ≤ length b.input
  pub input : length b.input ≤ FILE_LIMIT
  pub stored : b.output ≤ top
  pub output : b.output ≤ FILE_LIMIT
  pub last_search : ForSome b.last_search (λ text. length text ≤ TEXT_LIMIT)

-- a text with these bytes for those between two places
abbrev pub replaced : List ℕ → ℕ → ℕ → List ℕ → List ℕ
replaced text low high put = take low text ++ (put ++ drop high text)

-- the pointer is put at a place, or after the bytes that were put in
abbrev pub pointer_after : ℕ → List ℕ → Option ℕ → ℕ
pointer_after at put (Some place) = place
pointer_after at put None = at + length put

-- these bytes in place of so many at a place
abbrev pub spliced : {O : Type 0} → StateOver O → ℕ → ℕ → List ℕ → Option ℕ → StateOver O
spliced s at deleted put point = record s {
  text = replaced s.text at
      (at + deleted) put;
  pointer = pointer_after at put point;
}

abbrev pub pointed : {O : Type 0} → StateOver O → ℕ → StateOver O
pointed s place = record s { pointer = place }

-- another number in the register q, or another text
abbrev pub with_register_number : {O : Type 0} → StateOver O → ℕ → ℤ → StateOver O
with_register_number s q n = record s { registers = with_number s.registers q n }

abbrev pub with_register_text : {O : Type 0} → StateOver O → ℕ → List ℕ → StateOver O
with_register_text s q text = record s { registers = with_text s.registers q text }

-- What the register q holds goes onto the push-down list.
abbrev pub pushed_from : {O : Type 0} → StateOver O → ℕ → StateOver O
pushed_from s q = record s { pushed = content s.registers q ∷ s.pushed }

-- what was pushed last
abbrev pub last_pushed : {O : Type 0} → StateOver O → Content
last_pushed s = slice_index_or s.pushed 0 blank

-- What was pushed last goes off the list, and into the register q.
abbrev pub popped_into : {O : Type 0} → StateOver O → ℕ → StateOver O
popped_into s q = record s {
  registers = with_content s.registers q
      (last_pushed s);
  pushed = drop 1 s.pushed;
}

abbrev pub with_case : {O : Type 0} → StateOver O → CaseMode → StateOver O
with_case s mode = record s { case_mode = mode }
