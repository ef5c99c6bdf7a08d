-- What the meaning says, sentence by sentence.
use Rattle.std.specs.Prelude.{◌≡◌, ◌≢◌, ℕ, suc, ◌+◌, ◌≤◌, ◌<◌, List, [], Option, Some, None, Bool, true, false, Ok, ℤ, ◌==◌, if◌then◌else◌}
use Rattle.teco_core.specs.declared.code.Code.{Code}
use Rattle.teco_core.specs.declared.code.Code.TheVariants as code
use Rattle.teco_core.specs.declared.arguments.Taken.TheVariants as taken
use Rattle.teco_core.specs.Arguments.{taken_from}
use Rattle.teco_core.specs.declared.limits.TheConstants.{CALL_LIMIT}
use Rattle.teco_scan.specs.declared.command.Modifiers.{Modifiers}
use Rattle.teco_scan.specs.declared.command.Test.{Test}
use Rattle.teco_scan.specs.Scan.{Item}
use Rattle.teco_scan.specs.Tree.{Nodes, done, item, escape, iter, cond, tag, faulty, after_tag}
use Rattle.teco_step.specs.declared.next.Setting.{Setting}
use Rattle.teco_step.specs.Step.{Step, End, on, leave, go, call, out, again, stop, takes_one}
use Rattle.teco_step.specs.Effect.{effect}
use Rattle.teco_store.specs.State.{State}
use Rattle.teco_scan.specs.Lists.{nodes}
use Rattle.teco_exec.specs.Test.{holds}
use Rattle.teco_exec.specs.World.{World, WorldAndEnd, and_then, without_arguments, world_after}
use Rattle.teco_exec.specs.Meaning.{meaning, run_after_tag, then_rest, after_call, turns_of, leave_comes, first_setting, list_by, turns_by, further_by}
use Rattle.teco_exec.specs.StringMeaning.{StringMeaning, string_meaning}

-- the same world with this much fuel
abbrev pub with_fuel : World → ℕ → World
with_fuel w n = record w { fuel = n }

-- The meaning is made of itself: by these equations it unrolls.
pub record MeaningUnrolls : Type 0 where
  pub list : (whole rest : Nodes) (w : World) (depth : ℕ) (inside : Bool)
      → meaning.list whole rest w depth inside ≡ list_by meaning whole rest w depth inside
  pub turns : (left : Option ℕ) (body : Nodes) (w : World) (depth : ℕ)
      → meaning.turns left body w depth ≡ turns_by meaning left body w depth
  pub further : (i : Item) (setting : Setting) (w : World) (depth : ℕ)
      → meaning.further i setting w depth ≡ further_by meaning i setting w depth

-- The empty list does nothing, and ends well.
abbrev pub EmptyListEnds : Type 0
EmptyListEnds = (whole : Nodes) (w : World) (depth : ℕ) (inside : Bool)
    → meaning.list whole done w depth inside ≡ (w, on)

-- A fault that is reached ends the list by its code, and uses no step.
abbrev pub FaultStops : Type 0
FaultStops = (whole : Nodes) (c : Code) (w : World) (depth : ℕ) (inside : Bool)
    → meaning.list whole (faulty c) w depth inside ≡ (w, stop c)

-- A tag does nothing.
abbrev pub TagIsPassed : Type 0
TagIsPassed = (whole rest : Nodes) (name : List ℕ) (w : World) (depth : ℕ) (inside : Bool)
    → meaning.list whole (tag name rest) w depth inside ≡ meaning.list whole rest w depth inside

-- ESC drops the arguments, and uses no step.
abbrev pub EscapeDrops : Type 0
EscapeDrops = (whole rest : Nodes) (w : World) (depth : ℕ) (inside : Bool)
    → meaning.list whole (escape rest) w depth inside
    ≡ meaning.list whole rest (without_arguments w) depth inside

-- Without fuel a step, an iteration and a conditional aren't begun: LIM.
pub record NothingWithoutFuel : Type 0 where
  pub step : (whole rest : Nodes) (m : Modifiers) (i : Item) (w : World) (depth : ℕ) (inside : Bool)
      → w.fuel ≡ 0 → meaning.list whole (item m i rest) w depth inside ≡ (w, stop code.Lim)
  pub iteration : (whole body rest : Nodes) (w : World) (depth : ℕ) (inside : Bool) → w.fuel ≡ 0
      → meaning.list whole (iter body rest) w depth inside ≡ (w, stop code.Lim)
  pub conditional : (whole first second rest : Nodes) (t : Test) (w : World) (depth : ℕ) (inside : Bool)
      → w.fuel ≡ 0 → meaning.list whole (cond t first second rest) w depth inside ≡ (w, stop code.Lim)

-- A step of a token uses one of the fuel and does its effect.
abbrev pub first_effect : Modifiers → Item → Nodes → World → Bool → Step
first_effect m i rest w inside = effect i (first_setting m inside (leave_comes rest)) w.state w.arguments

abbrev pub stepped_world : Modifiers → Item → Nodes → World → Bool → ℕ → World
stepped_world m i rest w inside n = world_after (with_fuel w n) (first_effect m i rest w inside)

-- What a list comes to where a step of an item has ended so. The string goes on with the rest of the list.
-- Leaving, an exit and an error end the list. A jump goes to its tag in the list, or leaves it. A call runs
-- the text, one deeper and inside no iteration, and the rest follows where that ends well; inside CALL_LIMIT
-- others it is PDO. A further step is taken, and then the rest follows.
abbrev pub comes_to : Nodes → Nodes → Item → Setting → ℕ → World → End → WorldAndEnd
comes_to whole rest i setting depth w on = meaning.list whole rest w depth setting.inside
comes_to whole rest i setting depth w leave = (w, leave)
comes_to whole rest i setting depth w (go name) =
    run_after_tag meaning whole w depth setting.inside name (after_tag name whole)
comes_to whole rest i setting depth w (call text) =
    if depth == CALL_LIMIT
    then (w, stop code.Pdo)
    else and_then (and_then (meaning.list (nodes w.profile text) (nodes w.profile text) w (depth + 1) false) after_call)
    (then_rest meaning whole rest depth setting.inside)
comes_to whole rest i setting depth w out = (w, out)
comes_to whole rest i setting depth w (again work) =
    and_then (meaning.further i (record setting { work = Some work }) w depth)
    (then_rest meaning whole rest depth setting.inside)
comes_to whole rest i setting depth w (stop c) = (w, stop c)

-- So a step of an item, whatever its end: the list comes to what follows the effect.
abbrev pub StepEnds : Type 0
StepEnds = (whole rest : Nodes) (m : Modifiers) (i : Item) (w : World) (depth n : ℕ) (inside : Bool)
    → w.fuel ≡ suc n → meaning.list whole (item m i rest) w depth inside
    ≡ comes_to whole rest i (first_setting m inside (leave_comes rest)) depth
    (stepped_world m i rest w inside n) (first_effect m i rest w inside).end

-- A list comes to an item.
module _ (whole rest : Nodes) (m : Modifiers) (i : Item) (w : World) (depth n : ℕ) (inside : Bool) where
  -- how the effect of the item ends; the world that its step leaves; and what the list comes to
  abbrev pub ends : End
  ends = (first_effect m i rest w inside).end

  abbrev pub left : World
  left = stepped_world m i rest w inside n

  abbrev pub here : WorldAndEnd
  here = meaning.list whole (item m i rest) w depth inside

  -- What follows the step of an item.
  pub record StepSentences : Type 0 where
    -- If the effect lets the string go on, the rest of the list follows.
    pub goes_on : ends ≡ on → here ≡ meaning.list whole rest left depth inside
    -- An error ends the list by its code, after the step.
    pub error : (c : Code) → ends ≡ stop c → here ≡ (left, stop c)
    -- A jump goes on after the first such tag directly in the list. If there is none, it leaves the list.
    pub lands : (name : List ℕ) (later : Nodes) → ends ≡ go name → after_tag name whole ≡ Some later
        → here ≡ meaning.list whole later left depth inside
    pub leaves : (name : List ℕ) → ends ≡ go name → after_tag name whole ≡ None → here ≡ (left, go name)
    -- A call runs the text with the same arguments, one deeper and inside no iteration. If the text ends well,
    -- the calling list goes on with what it left.
    pub returns : (text : List ℕ) (v : World) → ends ≡ call text → depth ≢ CALL_LIMIT
        → meaning.list (nodes left.profile text) (nodes left.profile text) left (depth + 1) false ≡ (v, on)
        → here ≡ meaning.list whole rest v depth inside
    -- A call inside CALL_LIMIT others is PDO.
    pub too_deep : (text : List ℕ) → ends ≡ call text → depth ≡ CALL_LIMIT → here ≡ (left, stop code.Pdo)

-- These hold of the step of each item for which there is fuel.
abbrev pub StepComesTo : Type 0
StepComesTo = (whole rest : Nodes) (m : Modifiers) (i : Item) (w : World) (depth n : ℕ) (inside : Bool)
    → w.fuel ≡ suc n → StepSentences whole rest m i w depth n inside

-- A further step of a token has fuel of its own, and this work left.
abbrev pub FurtherStep : Type 0
FurtherStep = (i : Item) (setting : Setting) (w : World) (depth n : ℕ) → w.fuel ≡ suc n
    → (effect i setting w.state w.arguments).end ≡ on
    → meaning.further i setting w depth
    ≡ (world_after (with_fuel w n) (effect i setting w.state w.arguments), on)

-- A list comes to an iteration or a conditional, which leaves the world `v`.
module _ (whole rest : Nodes) (w v : World) (depth n : ℕ) (inside : Bool) where
  -- Each uses one of the fuel, and takes its arguments.
  abbrev pub begun : World
  begun = without_arguments (with_fuel w n)

  -- the rest of the list follows
  abbrev pub RestFollows : Nodes → World → Type 0
  RestFollows block u = meaning.list whole block w depth inside ≡ meaning.list whole rest u depth inside

  pub record BlockSentences : Type 0 where
    -- An iteration that takes n runs its body n times; without n it runs it until it is left.
    pub counted : (body : Nodes) (k : ℤ) → taken_from w.arguments ≡ Ok (taken.One k)
        → meaning.turns (Some (turns_of k)) body begun depth ≡ (v, on) → RestFollows (iter body rest) v
    pub endless : (body : Nodes) → taken_from w.arguments ≡ Ok taken.None
        → meaning.turns None body begun depth ≡ (v, on) → RestFollows (iter body rest) v
    -- A conditional takes a number, runs the part that its test chooses, and drops the arguments.
    pub chooses : (first second : Nodes) (t : Test) (k : ℤ) → takes_one code.Naq w.arguments ≡ Ok k
        → (let part : Nodes = if holds t k then first else second in
        meaning.list part part begun depth inside ≡ (v, on))
        → RestFollows (cond t first second rest) (without_arguments v)

-- These hold of each iteration and conditional for which there is fuel.
abbrev pub BlockComesTo : Type 0
BlockComesTo = (whole rest : Nodes) (w v : World) (depth n : ℕ) (inside : Bool)
    → w.fuel ≡ suc n → BlockSentences whole rest w v depth n inside

-- The end of a turn uses one of the fuel and drops the arguments. After the last turn nothing more is done;
-- the body runs inside an iteration.
pub record TurnEnds : Type 0 where
  pub last : (body : Nodes) (w : World) (depth : ℕ) → meaning.turns (Some 0) body w depth ≡ (w, on)
  pub counted : (body : Nodes) (w v : World) (depth left n : ℕ)
      → meaning.list body body w depth true ≡ (v, on) → v.fuel ≡ suc n
      → meaning.turns (Some (suc left)) body w depth
      ≡ meaning.turns (Some left) body (without_arguments (with_fuel v n)) depth
  pub endless : (body : Nodes) (w v : World) (depth n : ℕ) → meaning.list body body w depth true ≡ (v, on)
      → v.fuel ≡ suc n → meaning.turns None body w depth
      ≡ meaning.turns None body (without_arguments (with_fuel v n)) depth
  pub without_fuel : (body : Nodes) (w v : World) (depth left : ℕ)
      → meaning.list body body w depth true ≡ (v, on) → v.fuel ≡ 0
      → meaning.turns (Some (suc left)) body w depth ≡ (v, stop code.Lim)

-- Leaving ends the iteration well.
pub record LeavingEnds : Type 0 where
  pub counted : (body : Nodes) (w v : World) (depth left : ℕ)
      → meaning.list body body w depth true ≡ (v, leave)
      → meaning.turns (Some (suc left)) body w depth ≡ (v, on)
  pub endless : (body : Nodes) (w v : World) (depth : ℕ) → meaning.list body body w depth true ≡ (v, leave)
      → meaning.turns None body w depth ≡ (v, on)

-- No string takes more steps than its limit.
abbrev pub StepsWithinLimit : Type 0
StepsWithinLimit = (s : State) (text : List ℕ) (limit : ℕ) → (string_meaning s text limit).steps ≤ limit

-- More limit changes nothing once the string has ended.
abbrev pub MoreLimitChangesNothing : Type 0
MoreLimitChangesNothing = (s : State) (text : List ℕ) (limit more : ℕ)
    → (string_meaning s text limit).code ≢ Some code.Lim
    → string_meaning s text (limit + more) ≡ string_meaning s text limit

-- With as many steps as it took, a string does the same.
abbrev pub EnoughIsEnough : Type 0
EnoughIsEnough = (s : State) (text : List ℕ) (limit : ℕ)
    → string_meaning s text (string_meaning s text limit).steps ≡ string_meaning s text limit

-- Under a limit below the steps that it takes, a string takes just so many.
abbrev pub LimitsAreReached : Type 0
LimitsAreReached = (s : State) (text : List ℕ) (limit k : ℕ) → k < (string_meaning s text limit).steps
    → (string_meaning s text k).steps ≡ k

-- No string changes the profile that texts are read in.
abbrev pub ProfileIsKept : Type 0
ProfileIsKept = (s : State) (text : List ℕ) (limit : ℕ) → (string_meaning s text limit).state.profile ≡ s.profile

-- Under limit 0 nothing changes: no step is taken, no byte typed, and the state is the one before.
pub record ChangesNothing (s : State) (m : StringMeaning) : Type 0 where
  pub steps : m.steps ≡ 0
  pub state : m.state ≡ s
  pub typed : m.typed ≡ []
  pub load : m.load ≡ 0

abbrev pub ZeroLimitChangesNothing : Type 0
ZeroLimitChangesNothing = (s : State) (text : List ℕ) → ChangesNothing s (string_meaning s text 0)

-- A string that makes the session done ends with no code.
abbrev pub ExitEndsWell : Type 0
ExitEndsWell = (s : State) (text : List ℕ) (limit : ℕ) → s.is_done ≡ false
    → (string_meaning s text limit).state.is_done ≡ true → (string_meaning s text limit).code ≡ None
