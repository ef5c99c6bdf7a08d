-- What a function for a token did, beside the step that is meant.
use Rattle.std.specs.Prelude.{◌≡◌, ◌≢◌, ℕ, List, [], true, false, ◌⊎◌, Result, Ok, Err}
use Rattle.std.specs.declared.ops.Range.{Range as Places}
use Rattle.teco_core.specs.declared.arguments.Args.{Args}
use Rattle.teco_core.specs.declared.code.Code.{Code}
use Rattle.teco_core.specs.declared.code.Code.TheVariants as code
use Rattle.teco_core.specs.Arguments.{Arguments, no_arguments}
use Rattle.teco_core.specs.ArgumentsView.{arguments}
use Rattle.teco_store.specs.State.{State}
use Rattle.teco_store.specs.Trail.{Trail, moved}
use Rattle.teco_store.specs.declared.desk.Desk.{Ghosts as DeskView}
use Rattle.teco_store.specs.declared.desk.Refused.{Refused}
use Rattle.teco_store.specs.declared.desk.Refused.TheVariants.{Big, NoMemory}
use Rattle.teco_step.specs.declared.failure.Failure.{Failure}
use Rattle.teco_step.specs.declared.failure.Failure.TheVariants as failure
use Rattle.teco_step.specs.declared.next.Next.{Next}
use Rattle.teco_step.specs.declared.next.Next.TheVariants as next
use Rattle.teco_step.specs.Step.{Attempt, Action, done_by, goes_on, End, go, types, Range}
use Rattle.teco_step.specs.Ending.{end_of, is_unfinished, is_unfinished_code}
use Rattle.teco_io.specs.Terminal.{Screen, Shows, IsFrontOf}
use Rattle.teco_io.specs.declared.terminal.Terminal.{Ghosts as TerminalView}

-- failures and their codes
abbrev pub code_of_failure : Failure → Code
code_of_failure (failure.Command c) = c
code_of_failure failure.Memory = code.Mem
code_of_failure failure.Terminal = code.Tty

abbrev pub failure_of : Refused → Failure
failure_of Big = failure.Command code.Big
failure_of NoMemory = failure.Memory

-- what an answer leads to
abbrev pub next_of : Result Next Failure → Next
next_of (Ok n) = n
next_of (Err f) = next.Error (code_of_failure f)

abbrev pub range_of : Places ℕ → Range
range_of r = record { low = r.start; high = r.end }

-- A failure is a refusal, by a code that says no failure of the host.
pub record IsRefusal {A : Type 0} (f : Failure) (attempt : Result A Code) : Type 0 where
  pub code : Code
  pub is : f ≡ failure.Command code
  pub refused : attempt ≡ Err code
  pub own : is_unfinished_code code ≡ false

-- What was taken is what is to be taken, or is refused so.
abbrev pub Takes : {A B : Type 0} → (A → B) → Result A Failure → Result B Code → Type 0
Takes view (Ok x) attempt = attempt ≡ Ok (view x)
Takes view (Err f) attempt = IsRefusal f attempt

-- the name that an end goes to
abbrev pub tag_of : End → List ℕ
tag_of (go name) = name
tag_of e = []

-- what a desk follows it follows on, by the load; or there is none, and it follows the same
abbrev pub Carries : (Trail → Type 0) → (Trail → Type 0) → ℕ → Type 0
Carries before after load = ((t : Trail) → before t → after (moved t load))
    ⊎ ((load ≡ 0) × ((t : Trail) → before t → after t))

-- What stands at a moment: the state of a desk, the arguments, and what the desk follows.
pub record Scene : Type 1 where
  pub state : State
  pub arguments : Arguments
  pub follows : Trail → Type 0

-- a desk and arguments, by what is seen of such a desk
abbrev pub scene : {D : Type 0} → DeskView D → D × Args → Scene
scene view held = record {
  state = view.state held.0;
  arguments = arguments held.1;
  follows = view.follows held.0;
}

-- A step that types nothing was done.
pub record IsActed (attempt : Attempt) (before after : Scene) (n : Next) : Type 0 where
  pub load : ℕ
  pub end : End
  pub step : attempt
      ≡ Ok (record { state = after.state; arguments = after.arguments; typed = []; load = load; end = end })
  pub leads : end_of after.state (tag_of end) n ≡ end
  pub finished : is_unfinished n ≡ false
  pub carries : Carries before.follows after.follows load

-- It was refused, or memory was, and nothing changed.
pub record IsUnacted (attempt : Attempt) (before after : Scene) (f : Failure) : Type 0 where
  pub why : IsRefusal f attempt ⊎ (f ≡ failure.Memory)
  pub state : after.state ≡ before.state
  pub arguments : after.arguments ≡ before.arguments
  pub follows : (t : Trail) → before.follows t → after.follows t

-- What a function that types nothing did, which is to do this, from one scene to another.
abbrev pub ActsFrom : Action → Scene → Scene → Result Next Failure → Type 0
ActsFrom action before after (Ok n) = IsActed (done_by action before.state before.arguments) before after n
ActsFrom action before after (Err e) = IsUnacted (done_by action before.state before.arguments) before after e

-- What it did to a desk and arguments.
abbrev pub Acts : {D : Type 0} → DeskView D → Action → D × Args → D × Args → Result Next Failure → Type 0
Acts view action before after result = ActsFrom action (scene view before) (scene view after) result

-- Bytes were typed.
pub record IsTyped (attempt : Attempt) (s : State) (left : Arguments) (before after : Screen)
    (n : Next) : Type 0 where
  pub bytes : List ℕ
  pub step : attempt ≡ goes_on s (types s bytes)
  pub arguments : left ≡ no_arguments
  pub goes_on : n ≡ next.On
  pub shows : Shows before after bytes false

-- Typing was refused, and nothing shown.
pub record IsUntyped (attempt : Attempt) (a left : Arguments) (before after : Screen)
    (f : Failure) : Type 0 where
  pub why : IsRefusal f attempt
  pub arguments : left ≡ a
  pub screen : after ≡ before

-- A put failed: of the bytes, of which there are some, a beginning is shown.
pub record IsCutShort (attempt : Attempt) (s : State) (a left : Arguments) (before after : Screen)
    (f : Failure) : Type 0 where
  pub is : f ≡ failure.Terminal
  pub bytes : List ℕ
  pub step : attempt ≡ goes_on s (types s bytes)
  pub some : bytes ≢ []
  pub arguments : left ≡ a
  pub front : List ℕ
  pub beginning : IsFrontOf front bytes
  pub shows : Shows before after front true

-- What a function that types did, which is to do this, to arguments and a screen.
abbrev pub Types : Action → State → Arguments → Arguments → Screen → Screen → Result Next Failure → Type 0
Types f s a left before after (Ok n) = IsTyped (done_by f s a) s left before after n
Types f s a left before after (Err e) = IsUntyped (done_by f s a) a left before after e
    ⊎ IsCutShort (done_by f s a) s a left before after e

-- What a function for any token did to a desk, arguments and a terminal: it acted and left the screen, or typed and left
-- the state.
abbrev pub Does : {D T : Type 0} → DeskView D → TerminalView T → Action → D × Args × T → D × Args × T
    → Result Next Failure → Type 0
Does desk terminal action old new result =
    let before = scene desk (old.0, old.1) in
    let after = scene desk (new.0, new.1) in
    ((terminal.screen new.2 ≡ terminal.screen old.2) × ActsFrom action before after result)
    ⊎ ((after.state ≡ before.state) × ((t : Trail) → before.follows t → after.follows t)
    × Types action before.state before.arguments after.arguments (terminal.screen old.2)
    (terminal.screen new.2) result)
