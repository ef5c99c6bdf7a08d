-- Registers.
use Rattle.std.specs.Prelude.{ℕ, ◌+◌, List, [], ◌++◌, length, Option, None, Some, Result, Ok, Err, ℤ, pos, ◌+ℤ◌, nat_le, ◌==◌, if◌then◌else◌}
use Rattle.teco_core.specs.declared.code.Code.{Code}
use Rattle.teco_core.specs.declared.code.Code.TheVariants.{Arg, Big, Cpq, Nau, Pdo}
use Rattle.teco_core.specs.declared.arguments.Level.{Level}
use Rattle.teco_core.specs.declared.arguments.Level.TheVariants as level
use Rattle.teco_core.specs.declared.arguments.Taken.{Taken}
use Rattle.teco_core.specs.declared.arguments.Taken.TheVariants as taken
use Rattle.teco_core.specs.declared.profile.Profile.{Profile}
use Rattle.teco_core.specs.declared.profile.Profile.TheVariants.{Named, Wide}
use Rattle.teco_core.specs.Refusal.{◌>>=◌}
use Rattle.teco_core.specs.Number.{fitted}
use Rattle.teco_core.specs.Arguments.{Arguments, give, level_of, emptied, taken_from}
use Rattle.teco_core.specs.Register.{content}
use Rattle.teco_scan.specs.declared.command.Modifiers.{Modifiers}
use Rattle.teco_core.specs.declared.limits.TheConstants.{PUSHED_LIMIT, TEXT_LIMIT}
use Rattle.teco_store.specs.State.{State, with_register_number, with_register_text, pushed_from, last_pushed, popped_into}
use Rattle.teco_step.specs.Step.{Made, alone, changes, edits, gives, types, just_none, takes_none, takes_reach}
use Rattle.teco_step.specs.Editing.{inserted, inserts}
use Rattle.teco_step.specs.Typing.{part}
use Rattle.teco_step.specs.Values.{code_at}

-- the number of q, or with a colon the length of its text
abbrev pub number_or_length : Modifiers → ℕ → State → ℤ
number_or_length m q s = if m.colons == 1 then pos (length (content s.registers q).text)
    else (content s.registers q).number

-- In Wide nQq without a colon asks for byte n of the text of q; n is the value that the level has.
abbrev pub byte_asked : Modifiers → Profile → Level → Option ℤ
byte_asked m Wide (level.Value n) = if m.colons == 1 then None else Some n
byte_asked m p l = None

-- The code of a byte that is asked for comes for what the level has; it is -1 where no such byte is.
abbrev pub value_or_code : Modifiers → ℕ → Option ℤ → State → Arguments → Made
value_or_code m q None s a = gives s a (number_or_length m q s)
value_or_code m q (Some n) s a = gives s (emptied a) (code_at (content s.registers q).text n)

-- Qq gives the number of q; with a colon the length of its text. In Wide nQq gives the code of byte n of it.
abbrev pub register_value : Modifiers → ℕ → State → Arguments → Made
register_value m q s a = value_or_code m q (byte_asked m s.profile (level_of a.expression)) s a

-- nUq: the number of q becomes n. In Wide m,nUq gives m; in Named a pair is ARG.
abbrev pub sets_number : Profile → ℕ → Taken → State → Made
sets_number p q taken.None s = Err Nau
sets_number p q (taken.One n) s = changes (with_register_number s q n) 0
sets_number Named q (taken.Two m n) s = Err Arg
sets_number Wide q (taken.Two m n) s = edits (with_register_number s q n) (alone m) 0

abbrev pub set_number : ℕ → State → Arguments → Made
set_number q s a = do
  t ← taken_from a
  sets_number s.profile q t s

-- This is added to the number of q, and the sum is given.
abbrev pub adds : ℕ → ℤ → State → Arguments → Made
adds q n s a = do
  sum ← fitted ((content s.registers q).number +ℤ n)
  given ← give sum a
  edits (with_register_number s q sum) given 0

-- Nothing at the level is kept.
abbrev pub adds_alone : ℕ → ℤ → State → Arguments → Made
adds_alone q n s a = adds q n s (emptied a)

-- What % adds: the value or the lone sign at the level, and else 1. Only an operator that waits is kept there.
abbrev pub increments : ℕ → Level → State → Arguments → Made
increments q (level.Value n) s a = adds_alone q n s a
increments q (level.Sign n) s a = adds_alone q n s a
increments q level.Empty s a = adds_alone q (pos 1) s a
increments q level.Waits s a = adds q (pos 1) s a

-- n%q
abbrev pub increment : ℕ → State → Arguments → Made
increment q s a = increments q (level_of a.expression) s a

-- The text of q becomes this one, which must be within its limit, else BIG. The load is that of the old and the new one.
abbrev pub sets_text : ℕ → List ℕ → State → Made
sets_text q text s =
    if nat_le (length text) TEXT_LIMIT
    then changes (with_register_text s q text) (length (content s.registers q).text + length text)
    else Err Big

-- With a colon the text of q is kept, and what comes to it follows.
abbrev pub kept : Modifiers → ℕ → State → List ℕ
kept m q s = if m.colons == 1 then (content s.registers q).text else []

-- These bytes come to q: they become its text, and with a colon they come behind it.
abbrev pub comes_to : Modifiers → ℕ → List ℕ → State → Made
comes_to m q bytes s = sets_text q (kept m q s ++ bytes) s

-- What ^Uq takes for a text: in Wide as I does, the text itself, or n for the byte n; in Named the text alone, and a number is ARG.
abbrev pub text_taken : Profile → List ℕ → Taken → Result (List ℕ) Code
text_taken Wide text t = inserted text t
text_taken Named text t = do
  none ← just_none t
  Ok text

abbrev pub takes_text : Profile → List ℕ → Arguments → Result (List ℕ) Code
takes_text p text a = do
  t ← taken_from a
  text_taken p text t

-- ^Uqtext$: the text of q becomes this one. With a colon it comes behind the text of q.
abbrev pub set_text : Modifiers → ℕ → List ℕ → State → Arguments → Made
set_text m q text s a = do
  bytes ← takes_text s.profile text a
  comes_to m q bytes s

-- nXq: what n lines reach becomes the text of q; m,nXq: the range does. With a colon it comes behind the text of q.
abbrev pub extract : Modifiers → ℕ → State → Arguments → Made
extract m q s a = do
  r ← takes_reach s a
  comes_to m q (part s r) s

-- [q: what q holds is pushed, and PDO where no more can be. The arguments stay.
abbrev pub push : ℕ → State → Arguments → Made
push q s a = if length s.pushed == PUSHED_LIMIT then Err Pdo
    else edits (pushed_from s q) a (length (content s.registers q).text)

-- ]q: what was pushed last goes into q, and CPQ where nothing is pushed. The arguments stay. The load is that of the old and the new text.
abbrev pub pop : ℕ → State → Arguments → Made
pop q s a =
    if length s.pushed == 0 then Err Cpq
    else edits (popped_into s q) a (length (content s.registers q).text + length (last_pushed s).text)

-- :Gq: types the text of q.
abbrev pub type_text : ℕ → State → Arguments → Made
type_text q s a = do
  none ← takes_none a
  types s (content s.registers q).text

-- Gq: the text of q comes in at the pointer.
abbrev pub insert_text : ℕ → State → Arguments → Made
insert_text q s a = do
  none ← takes_none a
  inserts (content s.registers q).text s a

-- Gq, and with a colon :Gq
abbrev pub get : Modifiers → ℕ → State → Arguments → Made
get m q s a = if m.colons == 1 then type_text q s a else insert_text q s a
