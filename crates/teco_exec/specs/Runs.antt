-- How a run may end: as its meaning says, or by want of memory or a failed terminal after some whole steps.
use Rattle.std.specs.Prelude.{◌≡◌, ◌≢◌, ℕ, ◌+◌, ◌<◌, ◌≤◌, ◌⊎◌, List, Bool, true, false, Some}
use Rattle.teco_core.specs.declared.code.Code.TheVariants.{Lim, Mem, Tty}
use Rattle.teco_store.specs.State.{State}
use Rattle.teco_store.specs.Trail.{Trail}
use Rattle.teco_io.specs.Terminal.{IsFrontOf}
use Rattle.teco_exec.specs.StringMeaning.{string_meaning}
use Rattle.teco_exec.specs.declared.outcome.Outcome.{Outcome}

-- the string ended by itself
pub record EndsWell (s : State) (text : List ℕ) (limit : ℕ) (outcome : Outcome) (typed : List ℕ)
    (new : State) : Type 0 where
  pub code : outcome.code ≡ (string_meaning s text limit).code
  pub steps : outcome.steps ≡ (string_meaning s text limit).steps
  pub state : new ≡ (string_meaning s text limit).state
  pub bytes : typed ≡ (string_meaning s text limit).typed

-- the string ended by want of memory after k whole steps
pub record EndsByMemory (s : State) (text : List ℕ) (limit k : ℕ) (typed : List ℕ)
    (new : State) : Type 0 where
  pub before : k < (string_meaning s text limit).steps
  pub state : new ≡ (string_meaning s text k).state
  pub bytes : typed ≡ (string_meaning s text k).typed

-- the terminal failed in the step after k whole steps, which types
pub record EndsByTerminal (s : State) (text : List ℕ) (limit k : ℕ) (typed : List ℕ)
    (new : State) : Type 0 where
  pub before : k < (string_meaning s text limit).steps
  pub state : new ≡ (string_meaning s text k).state
  pub types : (string_meaning s text k).typed ≢ (string_meaning s text (k + 1)).typed
  pub at_least : IsFrontOf (string_meaning s text k).typed typed
  pub at_most : IsFrontOf typed (string_meaning s text (k + 1)).typed

-- a string from s may have this outcome, type these bytes and leave this state
abbrev pub Runs : State → List ℕ → ℕ → Outcome → List ℕ → State → Type 0
Runs s text limit outcome typed new = elim outcome.code [
  | Some Mem ↦ EndsByMemory s text limit outcome.steps typed new
  | Some Tty ↦ EndsByTerminal s text limit outcome.steps typed new
  | _ ↦ EndsWell s text limit outcome typed new
]

-- What is seen of one who may stop a run: the time that it gives to a run, as a number, and what it has answered,
-- and after how many steps: that the run is to stop, or not.
pub record Answers : Type 1 where
  pub span : ℕ
  pub said : ℕ → Bool → Type 0

-- It gives the same time after as before, and what it had answered before it has answered still.
pub record StillSays (before after : Answers) : Type 0 where
  pub span : after.span ≡ before.span
  pub said : (k : ℕ) (b : Bool) → before.said k b → after.said k b

-- what is seen of one who never asks a run to stop
abbrev pub never_asks : Answers
never_asks = record { span = 0; said = λ k b. b ≡ false }

-- A string was broken off: it was asked to stop after the steps that are done, its limit is just these, and
-- it ended by LIM.
pub record IsBrokenOff (answered : Answers) (limit : ℕ) (outcome : Outcome) : Type 0 where
  pub asked : answered.said outcome.steps true
  pub steps : limit ≡ outcome.steps
  pub code : outcome.code ≡ Some Lim

-- A string ended so under a limit: the given one, or else a smaller one, by which it was broken off. Before
-- each step that it did it was asked whether to stop, and the answer was no.
pub record RunsWithin (answered : Answers) (limit : ℕ) (outcome : Outcome) (P : ℕ → Type 0) : Type 0 where
  pub under : ℕ
  pub within : under ≤ limit
  pub stays : (under ≡ limit) ⊎ IsBrokenOff answered under outcome
  pub heard : (k : ℕ) → k < outcome.steps → answered.said k false
  pub so : P under

-- the outcome says that the terminal failed
abbrev pub is_tty : Outcome → Bool
is_tty outcome = elim outcome.code [ Some Tty ↦ true | _ ↦ false ]

-- what a desk comes through in k steps of a string, from the state before it
abbrev pub trail_of : State → List ℕ → ℕ → ℕ → Trail
trail_of s text floor k = record {
  states = λ i. (string_meaning s text i).state;
  loads = λ i. (string_meaning s text i).load;
  steps = k;
  load = (string_meaning s text k).load;
  changes = 0;
  floor = floor;
}
