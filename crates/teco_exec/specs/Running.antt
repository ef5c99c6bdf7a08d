-- A run of a whole string, as it is seen at a moment, and where it goes on from there.
use Rattle.std.specs.Prelude.{◌≡◌, ◌≢◌, ◌<◌, ℕ, zero, suc, ◌+◌, ◌-◌, List, [], ◌∷◌, false, Option, Some, None, drop, length}
use Rattle.teco_core.specs.declared.profile.Profile.{Profile}
use Rattle.teco_core.specs.Arguments.{Arguments}
use Rattle.teco_core.specs.ArgumentsView.{arguments}
use Rattle.teco_core.specs.declared.code.Code.{Code}
use Rattle.teco_core.specs.declared.code.Code.TheVariants.{Mem}
use Rattle.teco_scan.specs.Scan as items
use Rattle.teco_scan.specs.declared.command.RegisterCommand.TheVariants as register_command
use Rattle.teco_scan.specs.declared.token.Token.{Token}
use Rattle.teco_store.specs.State.{State}
use Rattle.teco_store.specs.Trail.{Trail}
use Rattle.teco_store.specs.declared.desk.Desk.{Ghosts as DeskView}
use Rattle.teco_step.specs.declared.next.Work.{Work}
use Rattle.teco_step.specs.Ending.{is_unfinished_code}
use Rattle.teco_io.specs.Terminal.{Screen, Shows}
use Rattle.teco_io.specs.declared.terminal.Terminal.{Ghosts as TerminalView}
use Rattle.teco_exec.specs.Machine.{Caller, Config, Further, Machine, runs, in_called_text, after_text_end, Ready, step, block, Final, Now, ready_of, final_with_fuel, final_without_fuel, run_within, after_steps, start_config}
use Rattle.teco_exec.specs.CursorMoves as machine
use Rattle.teco_exec.specs.MachineLaws.{MachineMeans}
use Rattle.teco_exec.specs.Places.{Standing, Told, IsToldOf, standing, stands_after, after_coming, step_token, IsReadAt}
use Rattle.teco_exec.specs.Quiet.{IsQuiet}
use Rattle.teco_exec.specs.Runs.{Runs, is_tty, trail_of}
use Rattle.teco_exec.specs.StringMeaning.{string_meaning}
use Rattle.teco_exec.specs.View.{Stays, cursor_at_start, cursor, item_of_kind, block_step_of}
use Rattle.teco_exec.specs.declared.cursor.Cursor.{Cursor}
use Rattle.teco_exec.specs.declared.flow.Exit.{Exit}
use Rattle.teco_exec.specs.declared.flow.Exit.TheVariants as exit
use Rattle.teco_exec.specs.declared.flow.Flow.{Flow}
use Rattle.teco_exec.specs.declared.flow.Flow.TheVariants as flow
use Rattle.teco_exec.specs.declared.flow.Steps.{Steps}
use Rattle.teco_exec.specs.declared.moves.BlockStep.{BlockStep}
use Rattle.teco_exec.specs.declared.outcome.Outcome.{Outcome}

-- Where a whole run began: the state, the text, and what the screen showed.
pub record Origin : Type 0 where
  pub state : State
  pub text : List ℕ
  pub screen : Screen

-- What is seen of a run at a moment: the state of the desk and what the desk follows, the screen, and the
-- steps that are done.
pub record Host : Type 1 where
  pub state : State
  pub follows : Trail → Type 0
  pub screen : Screen
  pub steps : ℕ

-- a desk, a terminal and the steps of a run, by what is seen of such a desk and such a terminal
abbrev pub host : {D T : Type 0} → DeskView D → TerminalView T → D × T × Steps → Host
host desk terminal held = record {
  state = desk.state held.0;
  follows = desk.follows held.0;
  screen = terminal.screen held.1;
  steps = held.2.done;
}

-- A screen that stands in a terminal's place is seen as it is.
abbrev pub itself : TerminalView Screen
itself = record { screen = λ w. w }

-- The run goes on so, from the state, the bytes typed and the load by then.
abbrev pub Continuation : Type 0
Continuation = Now → Ready

-- what a run comes to under a limit of steps, from what it is ready for
abbrev pub ready_run : ℕ → Ready → Final
ready_run zero r = final_without_fuel r
ready_run (suc n) r = final_with_fuel n (run_within n) r

-- the run of the whole text, from its beginning
abbrev pub whole_run : Origin → Machine
whole_run o = runs (start_config o.state o.text)

-- what the whole text means under a limit of so many steps
abbrev pub now_at : Origin → ℕ → Now
now_at o k = record {
  state = (string_meaning o.state o.text k).state;
  typed = (string_meaning o.state o.text k).typed;
  load = (string_meaning o.state o.text k).load;
}

-- what is seen of what a run is ready for: where it stands, and the machine after the step that comes
abbrev pub sight : Ready → Option Standing × Option Machine
sight r = (standing r, after_coming r)

-- By this moment the desk and the screen are as the whole text means, and its run, which the machine is, goes
-- on so under each limit, and stands there.
pub record RunGoesOn (o : Origin) (h : Host) (next : Continuation) : Type 0 where
  pub means : MachineMeans
  pub state : h.state ≡ (now_at o h.steps).state
  pub shows : Shows o.screen h.screen (now_at o h.steps).typed false
  pub leads : (fuel : ℕ)
      → run_within (h.steps + fuel) (whole_run o) ≡ ready_run fuel (next (now_at o h.steps))
  pub stands : sight (ready_of (after_steps h.steps (whole_run o))) ≡ sight (next (now_at o h.steps))

-- If the desk followed the run up to one moment, it follows it up to another.
abbrev pub StillFollows : Origin → Host → Host → Type 0
StillFollows o before after = (floor : ℕ) → before.follows (trail_of o.state o.text floor before.steps)
    → after.follows (trail_of o.state o.text floor after.steps)

pub record ReachesContinuation (o : Origin) (before after : Host) (next : Continuation) : Type 0 where
  pub going : RunGoesOn o after next
  pub follows : StillFollows o before after

abbrev pub ended_by : Option Code → ℕ → Outcome
ended_by code k = record { code = code; steps = k }

-- By this moment the whole run under this limit is over, by this code.
pub record ReachesEnd (limit : ℕ) (o : Origin) (before after : Host) (code : Option Code) : Type 0 where
  pub typed : List ℕ
  pub runs : Runs o.state o.text limit (ended_by code after.steps) typed after.state
  pub shows : Shows o.screen after.screen typed (is_tty (ended_by code after.steps))
  pub again : after.state ≡ (now_at o after.steps).state
  pub follows : StillFollows o before after

-- It is over by a step or at its end, and stands nowhere.
pub record ReachesOver (limit : ℕ) (o : Origin) (before after : Host) (code : Option Code) : Type 0 where
  pub ends : ReachesEnd limit o before after code
  pub nowhere : stands_after o.state o.text after.steps ≡ None

-- Where a run has got: it goes on; it is over, by a step or at its end; or it stops, before a step or at a
-- fault.
pub data Reached : Type 0 where
  goes : (next : Continuation) → Reached
  over : (code : Option Code) → Reached
  stops : (code : Code) → Reached

abbrev pub Reaches : ℕ → Origin → Host → Host → Reached → Type 0
Reaches limit o before after (goes next) = ReachesContinuation o before after next
Reaches limit o before after (over code) = ReachesOver limit o before after code
Reaches limit o before after (stops code) = ReachesEnd limit o before after (Some code)

-- From one moment to a later one a run is led from a continuation to where it then has got: under the limit of
-- the later one, and whatever has called the text.
abbrev pub RunLeads : {D T : Type 0} → DeskView D → TerminalView T → D × T × Steps → D × T × Steps
    → (List Caller → Continuation) → (List Caller → Reached) → Type 0
RunLeads desk terminal old new from to =
    let before = host desk terminal old in
    let after = host desk terminal new in
    (o : Origin) (callers : List Caller)
    → RunGoesOn o before (from callers) → Reaches new.2.limit o before after (to callers)

-- The same, for a text at this depth of calls.
abbrev pub RunLeadsAt : {D T : Type 0} → DeskView D → TerminalView T → ℕ → D × T × Steps → D × T × Steps
    → (List Caller → Continuation) → (List Caller → Reached) → Type 0
RunLeadsAt desk terminal depth old new from to =
    let before = host desk terminal old in
    let after = host desk terminal new in
    (o : Origin) (callers : List Caller) → length callers ≡ depth
    → RunGoesOn o before (from callers) → Reaches new.2.limit o before after (to callers)

-- what a run that is over comes to
abbrev pub ended_at : ℕ → Now → Option Code → Final
ended_at fuel now code = record {
  state = now.state;
  typed = now.typed;
  load = now.load;
  fuel = fuel;
  code = code;
}

-- Two that are ready so go on in the same way, and stand at the same place.
pub record Alike (r q : Ready) : Type 0 where
  pub runs : (fuel : ℕ) → ready_run fuel r ≡ ready_run fuel q
  pub stands : sight r ≡ sight q

-- One that is ready so is over, and stands nowhere.
pub record ComesOver (r : Ready) (now : Now) (code : Option Code) : Type 0 where
  pub runs : (fuel : ℕ) → ready_run fuel r ≡ ended_at fuel now code
  pub nowhere : standing r ≡ None

-- A run that is ready so comes to what is reached.
abbrev pub Comes : Ready → Now → Reached → Type 0
Comes r now (goes next) = Alike r (next now)
Comes r now (over code) = ComesOver r now code
Comes r now (stops code) = (fuel : ℕ) → ready_run fuel r ≡ ended_at fuel now (Some code)

abbrev pub config : Profile → List ℕ → machine.Cursor → Option Further → List Caller → Now → Config
config p text c further callers now =
    record {
      profile = p;
      state = now.state;
      typed = now.typed;
      load = now.load;
      text = text;
      at = c;
      callers = callers;
      further = further;
    }

-- A text goes on at a cursor.
abbrev pub at_cursor : Cursor → List Caller → Continuation
at_cursor c callers now = ready_of (runs (config c.text.profile c.text.bytes.now (cursor c) None callers now))

-- It goes on with a step of this token, the first or a further one.
abbrev pub at_token : Cursor → Token → Option Work → List Caller → Continuation
at_token c token work callers now =
    step token.modifiers (item_of_kind c.text.bytes.now token.kind) work
    (config c.text.profile c.text.bytes.now (cursor c) None callers now)

-- It goes on with a step of a block, whose token ends at a place.
abbrev pub at_block_step : Cursor → BlockStep → ℕ → List Caller → Continuation
at_block_step c o to callers now =
    block (block_step_of o) (drop to c.text.bytes.now) (config c.text.profile c.text.bytes.now (cursor c) None callers now)

-- It goes on with a step that calls the text of this register. Modifiers mean nothing to it.
abbrev pub at_register_call : Cursor → ℕ → List Caller → Continuation
at_register_call c q callers now =
    step (record { at = false; colons = 0 }) (items.register register_command.Macro q) None
    (config c.text.profile c.text.bytes.now (cursor c) None callers now)

-- It goes on with a call of this text.
abbrev pub at_call : Cursor → List ℕ → List Caller → Continuation
at_call c text callers now = ready_of (in_called_text text (config c.text.profile c.text.bytes.now (cursor c) None callers now))

-- A text begins.
abbrev pub at_beginning : Profile → Arguments → List ℕ → List Caller → Continuation
at_beginning p a text callers now = ready_of (runs (config p text (cursor_at_start a text) None callers now))

-- A text is over, with these arguments: the latest caller goes on.
abbrev pub at_return : Profile → Arguments → List Caller → Continuation
at_return p a callers now = ready_of (after_text_end (config p [] (cursor_at_start a []) None [] now) callers)

-- a cursor after a call, with the arguments that it left
abbrev pub cursor_after_call : Arguments → machine.Cursor → machine.Cursor
cursor_after_call a c = record { args = a; left = c.left; blocks = c.blocks }

-- where a flow leads
abbrev pub reached_by_flow : Cursor → List Caller → Flow → Reached
reached_by_flow c callers flow.On = goes (at_cursor c callers)
reached_by_flow c callers (flow.Call q) = goes (at_register_call c q callers)
reached_by_flow c callers flow.Return = goes (at_return c.text.profile (arguments c.args) callers)
reached_by_flow c callers flow.Over = over None
reached_by_flow c callers (flow.Fail code) = over (Some code)
reached_by_flow c callers (flow.Stop code) = stops code

-- where the end of a text leads
abbrev pub reached_by_exit : Profile → Arguments → List Caller → Exit → Reached
reached_by_exit p a callers exit.Return = goes (at_return p a callers)
reached_by_exit p a callers exit.Over = over None
reached_by_exit p a callers (exit.Fail code) = over (Some code)
reached_by_exit p a callers (exit.Stop code) = stops code

-- where the end of a called text leads: its caller goes on at this cursor
abbrev pub reached_after_call : Cursor → List Caller → Exit → Reached
reached_after_call c callers exit.Return = goes (at_cursor c callers)
reached_after_call c callers exit.Over = over None
reached_after_call c callers (exit.Fail code) = over (Some code)
reached_after_call c callers (exit.Stop code) = stops code

-- the code that a text's end leaves, where nothing has called it
abbrev pub code_left : Exit → Option Code
code_left exit.Return = None
code_left exit.Over = None
code_left (exit.Fail code) = Some code
code_left (exit.Stop code) = Some code

-- the text goes on at its cursor
abbrev pub GoesOn : Flow → Type 0
GoesOn flow.On = Unit {0}
GoesOn (flow.Call q) = ⊥
GoesOn flow.Return = ⊥
GoesOn flow.Over = ⊥
GoesOn (flow.Fail code) = ⊥
GoesOn (flow.Stop code) = ⊥

-- A text of values and arithmetic alone goes on at such a text, or is over, but not for want of memory.
abbrev pub GoesQuietly : Cursor → Flow → Type 0
GoesQuietly c flow.On = IsQuiet c.text.profile (cursor c)
GoesQuietly c (flow.Call q) = ⊥
GoesQuietly c flow.Return = Unit {0}
GoesQuietly c flow.Over = Unit {0}
GoesQuietly c (flow.Fail code) = Some code ≢ Some Mem
GoesQuietly c (flow.Stop code) = Some code ≢ Some Mem

-- neither want of memory nor a failed terminal
abbrev pub IsFinished : Option Code → Type 0
IsFinished None = Unit {0}
IsFinished (Some c) = is_unfinished_code c ≡ false

-- A step has been done: the text goes on or is over, or the whole run is.
abbrev pub FlowFinishes : Flow → Type 0
FlowFinishes flow.On = Unit {0}
FlowFinishes (flow.Call q) = ⊥
FlowFinishes flow.Return = Unit {0}
FlowFinishes flow.Over = Unit {0}
FlowFinishes (flow.Fail code) = is_unfinished_code code ≡ false
FlowFinishes (flow.Stop code) = ⊥

-- what is said of the steps after which the run last stood, by those that are done: where it stops, and where
-- a step has failed, which then counts
abbrev pub OnLast : Flow → ℕ → (ℕ → Type 0) → Type 0
OnLast (flow.Stop code) done P = P done
OnLast (flow.Fail code) done P = (0 < done) × P (done - 1)
OnLast f done P = Unit {0}

-- what is said where a text is called
abbrev pub OnCall : Flow → (ℕ → Type 0) → Type 0
OnCall (flow.Call q) P = P q
OnCall f P = Unit {0}

-- A cursor stays where the whole run stops, where a step has failed, or where a text is called.
abbrev pub FlowStays : Cursor → Cursor → Flow → Type 0
FlowStays old new (flow.Stop code) = Stays old new
FlowStays old new (flow.Fail code) = Stays old new
FlowStays old new (flow.Call q) = Stays old new
FlowStays old new f = Unit {0}

-- where the run of a whole text stands after some steps
abbrev pub StandsAt : Origin → ℕ → Standing → Type 0
StandsAt o k s = stands_after o.state o.text k ≡ Some s

-- before a step of this token
abbrev pub token_standing : Cursor → Token → List Caller → Standing
token_standing c token callers = record {
  profile = c.text.profile;
  text = c.text.bytes.now;
  left = (cursor c).left;
  blocks = (cursor c).blocks;
  callers = callers;
  token = Some (step_token token.modifiers (item_of_kind c.text.bytes.now token.kind));
}

-- A run stands at what is read where a cursor is.
pub record IsStandingAt (c : Cursor) (others : List Caller) (s : Standing) : Type 0 where
  pub profile : s.profile ≡ c.text.profile
  pub text : s.text ≡ c.text.bytes.now
  pub blocks : s.blocks ≡ (cursor c).blocks
  pub callers : s.callers ≡ others
  pub read : IsReadAt c.text.profile c.text.bytes.now c.at s.token s.left

pub record StandsSomewhere (o : Origin) (k : ℕ) (c : Cursor) (callers : List Caller) : Type 0 where
  pub there : Standing
  pub stands : StandsAt o k there
  pub is : IsStandingAt c callers there

-- A run that goes on at a cursor from this moment stood there after so many steps.
abbrev pub HasStood : {D T : Type 0} → DeskView D → TerminalView T → D × T × Steps → Cursor → ℕ → Type 0
HasStood desk terminal old c k = (o : Origin) (callers : List Caller)
    → RunGoesOn o (host desk terminal old) (at_cursor c callers) → StandsSomewhere o k c callers

-- One that goes on with the first step of a token stood before it.
abbrev pub HasStoodBefore : {D T : Type 0} → DeskView D → TerminalView T → D × T × Steps → Cursor → Token → ℕ → Type 0
HasStoodBefore desk terminal old c token k = (o : Origin) (callers : List Caller)
    → RunGoesOn o (host desk terminal old) (at_token c token None callers)
    → StandsAt o k (token_standing c token callers)

-- The run of a whole text stands where and when it is told, inside texts that have called.
pub record StandsWhereTold (o : Origin) (callers : List Caller) (p : Told) : Type 0 where
  pub there : Standing
  pub stands : StandsAt o p.steps there
  pub told : IsToldOf callers p there

-- A watch knows nothing, or where the run last stood: after all the steps that are done, or before one that
-- has failed.
abbrev pub Tells : (Option Told → Type 0) → Exit → ℕ → (Told → Type 0) → Type 0
Tells knows exit.Return done P = knows None
Tells knows exit.Over done P = knows None
Tells knows (exit.Fail code) done P = (p : Told) × knows (Some p) × (p.steps + 1 ≡ done) × P p
Tells knows (exit.Stop code) done P = (p : Told) × knows (Some p) × (p.steps ≡ done) × P p

-- From a continuation of a text at this depth of calls a run has come to stand where it is told.
abbrev pub StandsFrom : {D T : Type 0} → DeskView D → TerminalView T → ℕ → D × T × Steps
    → (List Caller → Continuation) → Told → Type 0
StandsFrom desk terminal depth old from p =
    (o : Origin) (callers : List Caller) → length callers ≡ depth
    → RunGoesOn o (host desk terminal old) (from callers) → StandsWhereTold o callers p

-- a text that has called another
abbrev pub caller : Cursor → Caller
caller c = record { text = c.text.bytes.now; left = (cursor c).left; blocks = (cursor c).blocks }

-- The same, where this cursor's text has called that of a register, of a place inside of that.
abbrev pub StandsInside : {D T : Type 0} → DeskView D → TerminalView T → ℕ → D × T × Steps
    → Cursor → ℕ → Told → Type 0
StandsInside desk terminal depth old c q p =
    (o : Origin) (callers : List Caller) → length callers ≡ depth
    → RunGoesOn o (host desk terminal old) (at_register_call c q callers) → StandsWhereTold o (caller c ∷ callers) p
