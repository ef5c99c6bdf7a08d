-- Moves and insertions.
use Rattle.std.specs.Prelude.{ℕ, ℤ, List, [], ◌∷◌, length, min, max, Option, None, Some, Result, Ok, Err, pos, ◌+◌, ◌-◌, ◌+ℤ◌, ◌-ℤ◌, nat_le, if◌then◌else◌}
use Rattle.teco_core.specs.declared.code.Code.{Code}
use Rattle.teco_core.specs.declared.code.Code.TheVariants.{Arg, Big, Dtb, Iia, Pop}
use Rattle.teco_core.specs.declared.arguments.Taken.{Taken}
use Rattle.teco_core.specs.declared.arguments.Taken.TheVariants as taken
use Rattle.teco_core.specs.Refusal.{◌>>=◌}
use Rattle.teco_core.specs.Arguments.{Arguments, taken_from}
use Rattle.teco_core.specs.declared.limits.TheConstants.{TEXT_LIMIT}
use Rattle.teco_store.specs.State.{State, spliced, pointed}
use Rattle.teco_step.specs.Step.{Made, changes, takes_one_or, takes_reach, as_byte, place_or}
use Rattle.teco_step.specs.Line.{line}
use Prim.Native.Char.{code}

-- The pointer goes to a place.
abbrev pub moves : ℕ → State → Arguments → Made
moves place s a = changes (pointed s place) 0

-- It goes to a place of the text, else POP.
abbrev pub moves_to : ℤ → State → Arguments → Made
moves_to p s a = do
  place ← place_or Pop s p
  moves place s a

-- nJ: the pointer to n, or to 0.
abbrev pub jump : State → Arguments → Made
jump s a = do
  n ← takes_one_or (pos 0) a
  place ← place_or Pop s n
  moves place s a

-- nC: the pointer forward by n, or by 1.
abbrev pub forward : State → Arguments → Made
forward s a = do
  n ← takes_one_or (pos 1) a
  place ← place_or Pop s (pos s.pointer +ℤ n)
  moves place s a

-- nR: the pointer back by n, or by 1.
abbrev pub back : State → Arguments → Made
back s a = do
  n ← takes_one_or (pos 1) a
  place ← place_or Pop s (pos s.pointer -ℤ n)
  moves place s a

-- nL: the pointer to line n, or to the next one.
abbrev pub to_line : State → Arguments → Made
to_line s a = do
  n ← takes_one_or (pos 1) a
  moves (line s.text s.pointer n) s a

-- A state whose text is within its limit; else BIG.
abbrev pub with_text_in_limit : State → Result State Code
with_text_in_limit s = if nat_le (length s.text) TEXT_LIMIT then Ok s else Err Big

-- These bytes come in for so many at a place, and the pointer goes after them.
abbrev pub puts : ℕ → ℕ → List ℕ → State → Arguments → Made
puts at deleted bytes s a = do
  t ← with_text_in_limit (spliced s at deleted bytes None)
  changes t (deleted + length bytes)

-- The bytes come in at the pointer, which goes after them.
abbrev pub inserts : List ℕ → State → Arguments → Made
inserts bytes s a = puts s.pointer 0 bytes s a

-- nD: n characters after the pointer are deleted, or -n before it; one where it takes none.
abbrev pub delete : State → Arguments → Made
delete s a = do
  n ← takes_one_or (pos 1) a
  place ← place_or Dtb s (pos s.pointer +ℤ n)
  puts (min s.pointer place) (max s.pointer place - min s.pointer place) [] s a

-- nK: what n lines reach is deleted; m,nK: the range is.
abbrev pub kill : State → Arguments → Made
kill s a = do
  r ← takes_reach s a
  puts r.low (r.high - r.low) [] s a

-- What I inserts: its text; or with n and no text the byte n.
abbrev pub inserted : List ℕ → Taken → Result (List ℕ) Code
inserted text taken.None = Ok text
inserted [] (taken.One n) = do
  b ← as_byte n
  Ok (b ∷ [])
inserted (b ∷ text) (taken.One n) = Err Iia
inserted text (taken.Two m n) = Err Arg

-- the text, or the byte that comes for it
abbrev pub or_byte : List ℕ → Option ℕ → List ℕ
or_byte text None = text
or_byte text (Some b) = b ∷ []

abbrev pub insert : List ℕ → State → Arguments → Made
insert text s a = do
  t ← taken_from a
  bytes ← inserted text t
  inserts bytes s a

-- Anything that was taken is IIA.
abbrev pub untaken : Taken → Result (Unit {0}) Code
untaken taken.None = Ok tt
untaken (taken.One n) = Err Iia
untaken (taken.Two m n) = Err Iia

-- TAB text$: a TAB and the text come in at the pointer. It takes nothing.
abbrev pub insert_tab : List ℕ → State → Arguments → Made
insert_tab text s a = do
  t ← taken_from a
  none ← untaken t
  inserts (code "\t" ∷ text) s a
