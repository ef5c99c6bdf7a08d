-- Entries: changes in the order in which they were noted. An entry is turned back last change first, and forth first change first.
use Rattle.std.specs.Prelude.{ℕ, ◌+◌, ◌≤◌, List, [], ◌∷◌, length, nat_lt, if◌then◌else◌}
use Rattle.teco_core.specs.Register.{content}
use Rattle.teco_store.specs.Search.{length_of}
use Rattle.teco_store.specs.State.{Body}
use Rattle.teco_store.specs.Turn.{Turn, Splice, Lend, PutIn, TakeOut, Point, Number, Text, Push, TakeOff, PopInto, PutBack, Pages, Search, Found, Done, Mode, Note, Fits, top_of, body_after, note_after, held_by}

-- the body and the changes after each is turned once, the last first
abbrev pub body_back : List Note → Body → Body
body_back [] b = b
body_back (c ∷ cs) b = body_after c.turn (body_back cs b)

abbrev pub notes_back : List Note → Body → List Note
notes_back [] b = []
notes_back (c ∷ cs) b = note_after c (body_back cs b) ∷ notes_back cs b

-- and the first first
abbrev pub body_forth : List Note → Body → Body
body_forth [] b = b
body_forth (c ∷ cs) b = body_forth cs (body_after c.turn b)

abbrev pub notes_forth : List Note → Body → List Note
notes_forth [] b = []
notes_forth (c ∷ cs) b = note_after c b ∷ notes_forth cs (body_after c.turn b)

-- each change fits the body at which it is turned; backward the output's end never rises
abbrev pub FitsBack : ℕ → List Note → Body → Type 0
FitsBack capacity [] b = Unit {0}
FitsBack capacity (c ∷ cs) b = FitsBack capacity cs b
    × Fits capacity (body_back cs b).output c.turn (body_back cs b)

-- and forward it never falls, up to `top`
abbrev pub FitsForth : ℕ → ℕ → List Note → Body → Type 0
FitsForth capacity top [] b = Unit {0}
FitsForth capacity top (c ∷ cs) b =
    (Fits capacity top c.turn b × (b.output ≤ (body_after c.turn b).output))
    × FitsForth capacity top cs (body_after c.turn b)

-- the changes made after the first `i` steps, and those made before
abbrev pub since : ℕ → List Note → List Note
since i [] = []
since i (c ∷ cs) = (if nat_lt c.step i then since i cs else (c ∷ cs))

abbrev pub before : ℕ → List Note → List Note
before i [] = []
before i (c ∷ cs) = (if nat_lt c.step i then (c ∷ before i cs) else [])

-- the changes of the step that came after the first `i`
abbrev pub of_step : ℕ → List Note → List Note
of_step i cs = before (i + 1) (since i cs)

-- the bytes of both sides of a change
abbrev pub weight : Turn → Body → ℕ
weight (Splice at there pointer held) b = there + length held
weight (Lend from count there_from there pointer) b = there + count
weight (PutIn held pointer) b = length held
weight (TakeOut held pointer) b = length held
weight (Point pointer) b = 0
weight (Number q number) b = 0
weight (Text q held) b = length (content b.registers q).text + length held
weight (Push held) b = length held.text
weight TakeOff b = length (top_of b.pushed).text
weight (PopInto q) b = length (content b.registers q).text + length (top_of b.pushed).text
weight (PutBack q held) b = length held.text + length (content b.registers q).text
weight (Pages place output form_feed) b = 0
weight (Search held) b = length_of b.last_search + length_of held
weight (Found found) b = 0
weight (Done done) b = 0
weight (Mode mode) b = 0

abbrev pub held_in : List Note → ℕ
held_in [] = 0
held_in (c ∷ cs) = held_by c.turn + held_in cs

-- the bytes of both sides of all changes that are to be turned back
abbrev pub load_back : List Note → Body → ℕ
load_back [] b = 0
load_back (c ∷ cs) b = weight c.turn (body_back cs b) + load_back cs b
