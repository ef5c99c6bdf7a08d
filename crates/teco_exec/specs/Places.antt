-- Where a run stands, in its text, its open blocks and its calls; and the first step that comes at a place which is
-- wanted.
use Rattle.std.specs.Prelude.{◌≡◌, ◌<◌, ◌≤◌, ℕ, Bool, true, false, List, [], ◌∷◌, ◌++◌, drop, length, MatchOption, Option, Some, None}
use Rattle.teco_scan.specs.Scan.{Item, TokenMeaning, found, scan, after_fillers, no_modifiers}
use Rattle.teco_scan.specs.Scan as token
use Rattle.teco_core.specs.declared.profile.Profile.{Profile}
use Rattle.teco_scan.specs.Breaks.{IsTokenPlace}
use Rattle.teco_scan.specs.declared.blocks.Kind.TheVariants.{Iter, Then, Else}
use Rattle.teco_scan.specs.declared.command.Modifiers.{Modifiers}
use Rattle.teco_scan.specs.declared.command.RegisterCommand.TheVariants.{Macro}
use Rattle.teco_store.specs.State.{State}
use Rattle.teco_exec.specs.CursorMoves.{Frame, after_block_step}
use Rattle.teco_exec.specs.Machine.{Caller, Config, Machine, Ready, step, block, faulty, finished, runs, runs_or_halts, after_token_step, ready_of, after_steps, start_config}

-- Where a run stands: the profile that texts are read in, its text and the bytes of it that are left, the open blocks,
-- and the callers, the latest first. Where a step of a token comes, the token has been read, and this is its meaning.
pub record Standing : Type 0 where
  pub profile : Profile
  pub text : List ℕ
  pub left : List ℕ
  pub blocks : List Frame
  pub callers : List Caller
  pub token : Option TokenMeaning

abbrev pub standing_of : Option TokenMeaning → Config → Standing
standing_of token c =
    record { profile = c.profile; text = c.text; left = c.at.left; blocks = c.at.blocks; callers = c.callers; token = token }

-- the token of a step, with its modifiers; to a call they mean nothing
abbrev pub step_token : Modifiers → Item → TokenMeaning
step_token m (token.register Macro q) =
    record { modifiers = no_modifiers; instruction = token.step (token.register Macro q) }
step_token m i = record { modifiers = m; instruction = token.step i }

abbrev pub call_token : ℕ → TokenMeaning
call_token q = step_token no_modifiers (token.register Macro q)

-- where a run stands: before a step, or at a fault; nowhere once it is over
abbrev pub standing : Ready → Option Standing
standing (step m i work c) = Some (standing_of (Some (step_token m i)) c)
standing (block b bs c) = Some (standing_of None c)
standing (faulty c e) = Some (standing_of None c)
standing (finished c e) = None

-- the turns left of each open iteration, the innermost first; none: without end
unfoldable pub open_turns : List Frame → List (Option ℕ)
open_turns [] = []
open_turns (b ∷ bs) =
    elim b.kind
    [ Iter ↦ b.left ∷ open_turns bs | Then ↦ open_turns bs | Else ↦ open_turns bs ]

-- What is read at a place of a text: this token of a step, and then what is left; or, of no token, what is
-- left, after fillers.
abbrev pub IsReadAt : Profile → List ℕ → ℕ → Option TokenMeaning → List ℕ → Type 0
IsReadAt p text at (Some t) left = (m : Modifiers) × (i : Item)
    × (scan p (drop at text) ≡ found (record { modifiers = m; instruction = token.step i }) left)
    × (step_token m i ≡ t)
IsReadAt p text at None left = after_fillers (drop at text) ≡ after_fillers left

-- the machine after the step that comes, if one does
abbrev pub after_coming : Ready → Option Machine
after_coming (step m i work c) = Some (after_token_step m i work c)
after_coming (block b bs c) = Some (runs_or_halts c (after_block_step c.profile b bs c.at))
after_coming (faulty c e) = None
after_coming (finished c e) = None

-- A call that is open: the register whose text is called, the place of the call in the text that calls, and the
-- turns left there.
pub record CallToken : Type 0 where
  pub register : ℕ
  pub at : ℕ
  pub turns : List (Option ℕ)

-- Where a run stands, as it is told: the profile that texts are read in, the steps that were done by then, the innermost text, the place in it, the
-- turns left there, and the calls, the latest first.
pub record Told : Type 0 where
  pub profile : Profile
  pub steps : ℕ
  pub text : List ℕ
  pub at : ℕ
  pub turns : List (Option ℕ)
  pub calls : List CallToken

abbrev pub told_here : Profile → ℕ → List ℕ → ℕ → List Frame → Told
told_here p steps text at blocks =
    record { profile = p; steps = steps; text = text; at = at; turns = open_turns blocks; calls = [] }

abbrev pub with_call : Told → ℕ → ℕ → List Frame → Told
with_call p q at blocks =
    record p { calls = p.calls ++ record { register = q; at = at; turns = open_turns blocks } ∷ [] }

pub record IsCallOf (p : Profile) (b : Caller) (x : CallToken) : Type 0 where
  pub here : IsTokenPlace b.text x.at x.at
  pub read : IsReadAt p b.text x.at (Some (call_token x.register)) b.left
  pub turns : x.turns ≡ open_turns b.blocks

-- These texts have made these calls, and then come others.
unfoldable pub HaveCalled : Profile → List CallToken → List Caller → List Caller → Type 0
HaveCalled p [] callers others = callers ≡ others
HaveCalled p (x ∷ xs) [] others = ⊥
HaveCalled p (x ∷ xs) (b ∷ callers) others = IsCallOf p b x × HaveCalled p xs callers others

-- It is told of a run that stands so, in a text with these callers.
pub record IsToldOf (callers : List Caller) (p : Told) (s : Standing) : Type 0 where
  pub profile : p.profile ≡ s.profile
  pub text : p.text ≡ s.text
  pub here : IsTokenPlace s.text p.at p.at
  pub read : IsReadAt s.profile s.text p.at s.token s.left
  pub turns : p.turns ≡ open_turns s.blocks
  pub calls : HaveCalled s.profile p.calls s.callers callers

-- where the run of a whole string stands after some steps
abbrev pub stands_after : State → List ℕ → ℕ → Option Standing
stands_after s text k = standing (ready_of (after_steps k (runs (start_config s text))))

-- The last place at which the run of a whole string has stood after this many steps: the token that comes or
-- the fault that is there, or else the token whose step was the last one.
pub record IsPlaceAfter (s : State) (text : List ℕ) (k : ℕ) (p : Told) : Type 0 where
  pub there : Standing
  pub stands : stands_after s text p.steps ≡ Some there
  pub told : IsToldOf [] p there
  pub within : p.steps ≤ k
  pub last : (j : ℕ) → p.steps < j → j ≤ k → stands_after s text j ≡ None

-- The run of a whole string stands so after k steps: with so many calls open, at this place of the innermost text.
pub record IsVisit (s : State) (text : List ℕ) (k calls at : ℕ) : Type 0 where
  pub told : Told
  pub stood : IsPlaceAfter s text k told
  pub steps_are : told.steps ≡ k
  pub calls_are : length told.calls ≡ calls
  pub at_is : told.at ≡ at

-- What is sought: the run of a whole string from a state, which places are wanted with so many calls open, and the
-- first step that is.
pub record Wanted : Type 0 where
  pub state : State
  pub text : List ℕ
  pub wanted : ℕ → ℕ → Bool
  pub from : ℕ

abbrev pub wanted_in : State → List ℕ → (ℕ → ℕ → Bool) → ℕ → Wanted
wanted_in s text wanted from = record { state = s; text = text; wanted = wanted; from = from }

-- Before each step from the one to the other, which is not among them, the run stood at the token that comes at
-- this place.
abbrev pub StoodThrough : Wanted → ℕ → ℕ → ℕ → List ℕ → ℕ → Type 0
StoodThrough sought old new calls text at =
    (k to : ℕ) → old ≤ k → k < new → IsTokenPlace text at to → IsVisit sought.state sought.text k calls to

-- Before this step it stands at a place that is wanted, or at one that isn't.
pub record StandsWanted (sought : Wanted) (k : ℕ) (so : Bool) : Type 0 where
  pub calls : ℕ
  pub at : ℕ
  pub stands : IsVisit sought.state sought.text k calls at
  pub is : sought.wanted calls at ≡ so

-- No step up to this one, which is not among them, comes at a place that is wanted.
abbrev pub NoneIsWanted : Wanted → ℕ → Type 0
NoneIsWanted sought to = (k : ℕ) → sought.from ≤ k → k < to → StandsWanted sought k false

-- This step is the first that does.
pub record IsFirstWanted (sought : Wanted) (n : ℕ) : Type 0 where
  pub after : sought.from ≤ n
  pub here : StandsWanted sought n true
  pub none : NoneIsWanted sought n

-- Among so many steps the first one was found, or there is none.
abbrev pub FindsWanted : Wanted → ℕ → Option ℕ → Type 0
FindsWanted sought steps first = MatchOption first (NoneIsWanted sought steps) (IsFirstWanted sought)
