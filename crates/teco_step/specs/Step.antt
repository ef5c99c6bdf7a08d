-- One step of a command string, and what commands have in common.
use Rattle.std.specs.Prelude.{ℕ, min, max, List, [], length, Result, Ok, Err, ℤ, pos, negsuc, nat_le, if◌then◌else◌}
use Rattle.teco_core.specs.declared.code.Code.{Code}
use Rattle.teco_core.specs.declared.code.Code.TheVariants.{Arg, Ill, Pop}
use Rattle.teco_core.specs.declared.arguments.Taken.{Taken}
use Rattle.teco_core.specs.declared.arguments.Expression.TheVariants.{Number}
use Rattle.teco_core.specs.declared.arguments.Taken.TheVariants as taken
use Rattle.teco_core.specs.Refusal.{◌>>=◌}
use Rattle.teco_core.specs.Arguments.{Arguments, no_arguments, give, taken_from}
use Rattle.teco_store.specs.State.{State}
pub use Rattle.teco_step.specs.declared.next.Setting.{Setting}
use Rattle.teco_step.specs.declared.next.Work.{Work}
use Rattle.teco_step.specs.Line.{line}
use Rattle.teco_io.specs.Terminal.{Screen}

-- How a step ends.
pub data End : Type 0 where
  on : End  -- the string goes on
  leave : End  -- the innermost iteration is left
  go : (name : List ℕ) → End  -- to the tag of this name
  call : (text : List ℕ) → End  -- this text is run
  out : End  -- after an exit
  again : (work : Work) → End  -- the same token has a further step
  stop : (c : Code) → End  -- an error

-- One step: the new state and arguments, the bytes that it types, the load of its change, and its end.
pub record Step : Type 0 where
  pub state : State
  pub arguments : Arguments
  pub typed : List ℕ
  pub load : ℕ
  pub end : End

-- what is seen around a step: the editing state, the arguments, and the terminal's screen
pub record Moment : Type 0 where
  pub state : State
  pub arguments : Arguments
  pub screen : Screen

abbrev pub at : State → Arguments → Screen → Moment
at s a w = record { state = s; arguments = a; screen = w }

-- a step, or the code by which it is refused with nothing changed
abbrev pub Attempt : Type 0
Attempt = Result Step Code

-- A refused step leaves all as it was.
abbrev pub settled : State → Arguments → Attempt → Step
settled s a (Ok step) = step
settled s a (Err c) = record { state = s; arguments = a; typed = []; load = 0; end = stop c }

-- What a step does after which the string goes on: the new state and arguments, the bytes that it types, and the load of its change;
pub record Change : Type 0 where
  pub state : State
  pub arguments : Arguments
  pub typed : List ℕ
  pub load : ℕ

-- or the code by which it is refused.
abbrev pub Made : Type 0
Made = Result Change Code

-- The string goes on. Only an exit makes a session done, so this leaves it as it was.
abbrev pub goes_on : State → Made → Attempt
goes_on s (Ok c) = Ok (record {
  state = record c.state { is_done = s.is_done };
  arguments = c.arguments;
  typed = c.typed;
  load = c.load;
  end = on;
})
goes_on s (Err c) = Err c

-- What a token is to do: a change, after which the string goes on; or a step that ends as it says.
pub data Action : Type 0 where
  goes : (make : State → Arguments → Made) → Action
  steers : (attempt : State → Arguments → Attempt) → Action

abbrev pub done_by : Action → State → Arguments → Attempt
done_by (goes make) s a = goes_on s (make s a)
done_by (steers attempt) s a = attempt s a

-- An edit: a new state, with the load of the change, and these arguments;
abbrev pub edits : State → Arguments → ℕ → Made
edits s a load = Ok (record { state = s; arguments = a; typed = []; load = load })

-- of a command that has taken its arguments.
abbrev pub changes : State → ℕ → Made
changes s load = edits s no_arguments load

-- It types bytes.
abbrev pub types : State → List ℕ → Made
types s bytes = Ok (record { state = s; arguments = no_arguments; typed = bytes; load = 0 })

-- It leaves these arguments.
abbrev pub leaves : State → Arguments → Made
leaves s a = edits s a 0

-- a value and nothing else
abbrev pub alone : ℤ → Arguments
alone v = record no_arguments { expression = Number v }

-- It gives a value.
abbrev pub gives : State → Arguments → ℤ → Made
gives s a v = do
  given ← give v a
  leaves s given

-- It leaves these arguments, and ends so.
abbrev pub ends : State → Arguments → End → Attempt
ends s a end = Ok (record { state = s; arguments = a; typed = []; load = 0; end = end })

-- A token that is no step, as a mark, a test or a tag, is refused as one.
abbrev pub unbuilt : {A : Type 0} → Result A Code
unbuilt = Err Ill

-- What a command takes: nothing;
abbrev pub just_none : Taken → Result (Unit {0}) Code
just_none taken.None = Ok tt
just_none (taken.One n) = Err Arg
just_none (taken.Two m n) = Err Arg

abbrev pub takes_none : Arguments → Result (Unit {0}) Code
takes_none a = do
  t ← taken_from a
  just_none t

-- one number, or this one where there is none;
abbrev pub one_or : ℤ → Taken → Result ℤ Code
one_or default taken.None = Ok default
one_or default (taken.One n) = Ok n
one_or default (taken.Two m n) = Err Arg

abbrev pub takes_one_or : ℤ → Arguments → Result ℤ Code
takes_one_or default a = do
  t ← taken_from a
  one_or default t

-- one number, or this code where there is none.
abbrev pub just_one : Code → Taken → Result ℤ Code
just_one c taken.None = Err c
just_one c (taken.One n) = Ok n
just_one c (taken.Two m n) = Err Arg

abbrev pub takes_one : Code → Arguments → Result ℤ Code
takes_one c a = do
  t ← taken_from a
  just_one c t

-- a byte
abbrev pub as_byte : ℤ → Result ℕ Code
as_byte (pos n) = if nat_le n 255 then Ok n else Err Arg
as_byte (negsuc n) = Err Arg

-- a place in the text, or this code
abbrev pub place_or : Code → State → ℤ → Result ℕ Code
place_or c s (pos n) = if nat_le n (length s.text) then Ok n else Err c
place_or c s (negsuc n) = Err c

-- from one place up to another
pub record Range : Type 0 where
  pub low : ℕ
  pub high : ℕ

abbrev pub rising : ℕ → ℕ → Range
rising p q = record { low = min p q; high = max p q }

-- What a command reaches: n lines from the pointer, or the range m,n, which must lie in the text; one line where there is nothing.
abbrev pub reached : State → Taken → Result Range Code
reached s taken.None = Ok (rising s.pointer (line s.text s.pointer (pos 1)))
reached s (taken.One n) = Ok (rising s.pointer (line s.text s.pointer n))
reached s (taken.Two m n) = do
  p ← place_or Pop s m
  q ← place_or Pop s n
  Ok (rising p q)

abbrev pub takes_reach : State → Arguments → Result Range Code
takes_reach s a = do
  t ← taken_from a
  reached s t
