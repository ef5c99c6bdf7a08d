-- A walk: a command string over a state, and how many steps of it are done.
use Rattle.std.specs.Prelude.{◌≡◌, ℕ, ◌+◌, ◌-◌, ◌≤◌, Bool, true, false, List, [], ◌∷◌, ◌++◌, length, take, Option, Some, None}
use Rattle.teco_core.specs.declared.code.Code.{Code}
use Rattle.teco_core.specs.declared.code.Code.TheVariants.{Mem, Tty}
use Rattle.teco_core.specs.declared.limits.TheConstants.{FILE_LIMIT}
use Rattle.teco_store.specs.State.{State}
use Rattle.teco_store.specs.Turn.{Note}
use Rattle.teco_exec.specs.StringMeaning.{StringMeaning, string_meaning}
use Rattle.teco_replay.specs.Begun.{begun_state}
use Rattle.teco_session.specs.History.{History, NotedString, state_after}
use Rattle.teco_session.specs.Kept.{history_of, string_at}
use Rattle.teco_debugger.specs.declared.walk.Walk.TheInside.{Inside}

-- the state with which its session begins, the strings before, the string, how many of its steps are done, and the changes that
-- they made
pub record KeptWalk : Type 0 where
  pub first : State
  pub before : List NotedString
  pub text : List ℕ
  pub steps : ℕ
  pub changes : List Note

-- the state after all of these strings
abbrev pub after_all : State → List NotedString → State
after_all first before = state_after first before (length before)

-- the state before the string
abbrev pub base : KeptWalk → State
base w = after_all w.first w.before

-- what a string means over a state, under a limit of steps
abbrev pub meant : State → List ℕ → ℕ → StringMeaning
meant s text n = string_meaning s text n

-- the state that the string means under a limit of just the steps that are done
abbrev pub state_there : KeptWalk → State
state_there w = (meant (base w) w.text w.steps).state

-- the history of a session after these strings
abbrev pub led : State → List NotedString → History
led first before = record { first = first; notes = before; cursor = length before; depth = None }

-- and then a string that is done up to this step
abbrev pub walked : State → List NotedString → List ℕ → ℕ → History
walked first before text n = record {
  first = first;
  notes = before ++ record { text = text; steps = n; state = (meant (after_all first before) text n).state } ∷ [];
  cursor = length before + 1;
  depth = None;
}

-- the strings before the last one that is not undone
abbrev pub before_last : History → List NotedString
before_last h = take (h.cursor - 1) h.notes

-- the state with which the session of a walk begins
abbrev pub walk_first : Inside → State
walk_first w = begun_state w.opening.profile w.opening.lines w.opening.input.items

abbrev pub kept_walk : Inside → KeptWalk
kept_walk w = record {
  first = walk_first w;
  before = before_last (history_of w.session);
  text = w.text.items;
  steps = w.steps;
  changes = (string_at w.session (w.session.cursor - 1)).changes;
}

-- The session has come so far by the string, from the strings before.
pub record IsWalk (w : Inside) : Type 0 where
  pub small : length w.opening.input.items ≤ FILE_LIMIT
  pub came : history_of w.session ≡ walked (walk_first w) (before_last (history_of w.session)) w.text.items w.steps

-- two walks over the same string, after the same
pub record SameString (w v : KeptWalk) : Type 0 where
  pub first : v.first ≡ w.first
  pub before : v.before ≡ w.before
  pub text : v.text ≡ w.text

-- A run that ended by this code did so for want of memory: a terminal in memory fails for that alone.
abbrev pub lacks_memory : Option Code → Bool
lacks_memory (Some Mem) = true
lacks_memory (Some Tty) = true
lacks_memory code = false
