-- Changes: a part of the state and the value that is to be put there. Turned, a change holds what stood there.
use Rattle.std.specs.Prelude.{◌≡◌, ℕ, ◌+◌, ◌<◌, ◌≤◌, Bool, List, [], ◌∷◌, ◌++◌, length, take, drop, replicate, Option, Some, ℤ, slice_index_or}
use Rattle.teco_core.specs.declared.case_mode.CaseMode.{CaseMode}
use Rattle.teco_core.specs.Register.{Content, blank, content, with_content}
use Rattle.teco_store.specs.Search.{length_of}
use Rattle.teco_store.specs.State.{Body, Full, IsSound, spliced, pointed, with_register_number, with_register_text, with_case}

pub data Turn : Type 0 where
  -- for the `there` bytes at `at`, and for the pointer
  Splice : (at there pointer : ℕ) (held : List ℕ) → Turn
  -- for the whole text, which is `there` bytes of the input, and for the pointer: other bytes of the input
  Lend : (from count there_from there pointer : ℕ) → Turn
  -- for a text of no bytes, and for the whole text, which is held; and for the pointer
  PutIn : (held : List ℕ) (pointer : ℕ) → Turn
  TakeOut : (held : List ℕ) (pointer : ℕ) → Turn
  Point : (pointer : ℕ) → Turn
  -- for the number, or the text, of the register q
  Number : (q : ℕ) (number : ℤ) → Turn
  Text : (q : ℕ) (held : List ℕ) → Turn
  -- onto the push-down list, and off it
  Push : (held : Content) → Turn
  TakeOff : Turn
  -- off the push-down list into the register q, and back with what the register held before
  PopInto : (q : ℕ) → Turn
  PutBack : (q : ℕ) (held : Content) → Turn
  -- for the place in the input, the output's end and the form feed flag
  Pages : (place output : ℕ) (form_feed : Bool) → Turn
  Search : (held : Option (List ℕ)) → Turn
  Found : (found : Bool) → Turn
  Done : (done : Bool) → Turn
  Mode : (mode : CaseMode) → Turn

-- so many bytes of the input from a place on; past its end they are 0
abbrev pub lent : List ℕ → ℕ → ℕ → List ℕ
lent input from count = take count (drop from input ++ replicate count 0)

-- A text is so many bytes of the input from a place on.
abbrev pub IsLent : List ℕ → List ℕ → ℕ → ℕ → Type 0
IsLent text input from count = (from + count ≤ length input) × (text ≡ lent input from count)

-- what was pushed last
abbrev pub top_of : List Content → Content
top_of contents = slice_index_or contents 0 blank

-- the body with the value put in
abbrev pub body_after : Turn → Body → Body
body_after (Splice at there pointer held) b = spliced b at there held (Some pointer)
body_after (Lend from count there_from there pointer) b = spliced b 0 there (lent b.input from count) (Some pointer)
body_after (PutIn held pointer) b = spliced b 0 0 held (Some pointer)
body_after (TakeOut held pointer) b = spliced b 0 (length held) [] (Some pointer)
body_after (Point pointer) b = pointed b pointer
body_after (Number q number) b = with_register_number b q number
body_after (Text q held) b = with_register_text b q held
body_after (Push held) b = record b { pushed = held ∷ b.pushed }
body_after TakeOff b = record b { pushed = drop 1 b.pushed }
body_after (PopInto q) b = record b {
  registers = with_content b.registers q
      (top_of b.pushed);
  pushed = drop 1 b.pushed;
}
body_after (PutBack q held) b = record b {
  registers = with_content b.registers q held;
  pushed = content b.registers q ∷ b.pushed;
}
body_after (Pages place output form_feed) b = record b {
  place = place;
  output = output;
  form_feed = form_feed;
}
body_after (Search held) b = record b { last_search = held }
body_after (Found found) b = record b { last_found = found }
body_after (Done done) b = record b { is_done = done }
body_after (Mode mode) b = with_case b mode

-- the same part, and what stood there
abbrev pub turn_after : Turn → Body → Turn
turn_after (Splice at there pointer held) b = Splice at (length held) b.pointer (take there (drop at b.text))
turn_after (Lend from count there_from there pointer) b = Lend there_from there from count b.pointer
turn_after (PutIn held pointer) b = TakeOut held b.pointer
turn_after (TakeOut held pointer) b = PutIn held b.pointer
turn_after (Point pointer) b = Point b.pointer
turn_after (Number q number) b = Number q (content b.registers q).number
turn_after (Text q held) b = Text q (content b.registers q).text
turn_after (Push held) b = TakeOff
turn_after TakeOff b = Push (top_of b.pushed)
turn_after (PopInto q) b = PutBack q (content b.registers q)
turn_after (PutBack q held) b = PopInto q
turn_after (Pages place output form_feed) b = Pages b.place b.output b.form_feed
turn_after (Search held) b = Search b.last_search
turn_after (Found found) b = Found b.last_found
turn_after (Done done) b = Done b.is_done
turn_after (Mode mode) b = Mode b.case_mode

-- what is taken out stands there
abbrev pub Stands : Turn → Body → Type 0
Stands (Splice at there pointer held) b = at + there ≤ length b.text
Stands (Lend from count there_from there pointer) b = IsLent b.text b.input there_from there
    × (from + count ≤ length b.input)
Stands (PutIn held pointer) b = b.text ≡ []
Stands (TakeOut held pointer) b = b.text ≡ held
Stands (Point pointer) b = Unit {0}
Stands (Number q number) b = q < length b.registers
Stands (Text q held) b = q < length b.registers
Stands (Push held) b = Unit {0}
Stands TakeOff b = 0 < length b.pushed
Stands (PopInto q) b = (q < length b.registers) × (0 < length b.pushed)
Stands (PutBack q held) b = q < length b.registers
Stands (Pages place output form_feed) b = Unit {0}
Stands (Search held) b = Unit {0}
Stands (Found found) b = Unit {0}
Stands (Done done) b = Unit {0}
Stands (Mode mode) b = Unit {0}

-- what is taken out stands there, and what is put in is within capacity, limits and the stored output
abbrev pub Fits : ℕ → ℕ → Turn → Body → Type 0
Fits room top t b = Stands t b × IsSound room top (body_after t b)

-- a change as it is kept: with the steps done before it
pub record Note : Type 0 where
  pub step : ℕ
  pub turn : Turn

abbrev pub note_after : Note → Body → Note
note_after c b = record { step = c.step; turn = turn_after c.turn b }

abbrev pub full_after : Turn → Full → Full
full_after t f = record { body = body_after t f.body; stored = f.stored; room = f.room }

abbrev pub FitsFull : Turn → Full → Type 0
FitsFull t f = Fits f.room (length f.stored) t f.body

-- a change can be turned back: the output's end does not rise
abbrev pub IsRevertible : Turn → Full → Type 0
IsRevertible t f = Fits f.room f.body.output t f.body

-- and forth: it does not fall
abbrev pub IsApplicable : Turn → Full → Type 0
IsApplicable t f = Fits f.room (length f.stored) t f.body × (f.body.output ≤ (body_after t f.body).output)

-- the bytes that a change holds
abbrev pub held_by : Turn → ℕ
held_by (Splice at there pointer held) = length held
held_by (Lend from count there_from there pointer) = 0
held_by (PutIn held pointer) = length held
held_by (TakeOut held pointer) = length held
held_by (Point pointer) = 0
held_by (Number q number) = 0
held_by (Text q held) = length held
held_by (Push held) = length held.text
held_by TakeOff = 0
held_by (PopInto q) = 0
held_by (PutBack q held) = length held.text
held_by (Pages place output form_feed) = 0
held_by (Search held) = length_of held
held_by (Found found) = 0
held_by (Done done) = 0
held_by (Mode mode) = 0
