-- The machine: a run of a command string, move by move. A move that pays is one step of the limit.
use Rattle.std.specs.Prelude.{ℕ, zero, suc, ◌+◌, List, [], ◌∷◌, ◌++◌, length, Option, Some, None, ◌==◌, Ok, Err, if◌then◌else◌}
use Rattle.teco_core.specs.declared.code.Code.{Code}
use Rattle.teco_core.specs.declared.code.Code.TheVariants as code
use Rattle.teco_core.specs.Arguments.{no_arguments}
use Rattle.teco_core.specs.declared.profile.Profile.{Profile}
use Rattle.teco_core.specs.declared.limits.TheConstants.{CALL_LIMIT}
use Rattle.teco_scan.specs.declared.command.Modifiers.{Modifiers}
use Rattle.teco_scan.specs.Scan.{Item, scan}
use Rattle.teco_store.specs.State.{State}
use Rattle.teco_step.specs.declared.next.Work.{Work}
use Rattle.teco_step.specs.declared.next.Setting.{Setting}
use Rattle.teco_step.specs.Step.{Step, End, on, leave, go, call, out, again, stop}
use Rattle.teco_step.specs.Effect.{effect}
use Rattle.teco_exec.specs.CursorMoves.{Frame, Cursor, CursorOrError, BlockStep, Coming, passed_to, step_comes, block_comes, end_comes, fault_comes, inside_iteration, leave_is_next, pass, after_block_step, after_leaving_iteration, after_jump}

-- A text that has called another: its bytes, those that are left, and its open blocks.
pub record Caller : Type 0 where
  pub text : List ℕ
  pub left : List ℕ
  pub blocks : List Frame

-- a token that has a further step
pub record Further : Type 0 where
  pub modifiers : Modifiers
  pub item : Item
  pub work : Work

-- the profile that texts are read in; the state, the bytes typed and the load so far; the text that runs, where it is,
-- and what called it, the latest first; and a further step
pub record Config : Type 0 where
  pub profile : Profile
  pub state : State
  pub typed : List ℕ
  pub load : ℕ
  pub text : List ℕ
  pub at : Cursor
  pub callers : List Caller
  pub further : Option Further

-- A run goes on, or is over.
pub data Machine : Type 0 where
  runs : Config → Machine
  halts : Config → Option Code → Machine

-- The run goes on at this cursor, or is over by this error.
abbrev pub runs_or_halts : Config → CursorOrError → Machine
runs_or_halts c (Ok cur) = runs (record c { at = cur })
runs_or_halts c (Err e) = halts c (Some e)

-- what a step of a token looks at around it
abbrev pub setting_of : Profile → Modifiers → Option Work → Cursor → Setting
setting_of p m work c = record {
  modifiers = m;
  work = work;
  inside = inside_iteration c.blocks;
  before = leave_is_next (scan p c.left);
}

-- at the beginning of a text that is called, with the same arguments; PDO inside CALL_LIMIT others
abbrev pub in_called_text : List ℕ → Config → Machine
in_called_text text c =
    if length c.callers == CALL_LIMIT then halts c (Some code.Pdo) else runs (record c {
      text = text;
      at = record { args = c.at.args; left = text; blocks = [] };
      callers = record { text = c.text; left = c.at.left; blocks = c.at.blocks } ∷ c.callers;
    })

-- where a step of a token has ended so
abbrev pub after_step_end : Modifiers → Item → End → Config → Machine
after_step_end m i on c = runs c
after_step_end m i leave c = runs_or_halts c (after_leaving_iteration c.profile c.at.blocks c.at.args c.at.left)
after_step_end m i (go name) c = runs_or_halts c (after_jump c.profile name c.text c.at.blocks c.at.args)
after_step_end m i (call text) c = in_called_text text c
after_step_end m i out c = halts c None
after_step_end m i (again work) c =
    runs (record c { further = Some (record { modifiers = m; item = i; work = work }) })
after_step_end m i (stop e) c = halts c (Some e)

-- after a step of a token, its first or a further one
abbrev pub after_token_step : Modifiers → Item → Option Work → Config → Machine
after_token_step m i work c =
    let d : Step = effect i (setting_of c.profile m work c.at) c.state c.at.args in
    after_step_end m i d.end (record c {
      state = d.state;
      typed = c.typed ++ d.typed;
      load = c.load + d.load;
      at = record c.at { args = d.arguments };
      further = None;
    })

-- Where a text is over, its caller goes on with the arguments that are left.
abbrev pub after_text_end : Config → List Caller → Machine
after_text_end c [] = halts c None
after_text_end c (b ∷ bs) =
    runs (record c {
      text = b.text;
      at = record { args = c.at.args; left = b.left; blocks = b.blocks };
      callers = bs;
    })

-- What comes next, once all is passed that uses no step: a step, a fault of a text, or the end of the run.
pub data Ready : Type 0 where
  step : Modifiers → Item → Option Work → Config → Ready
  block : BlockStep → List ℕ → Config → Ready
  faulty : Config → Code → Ready
  finished : Config → Option Code → Ready

-- what a run is ready for where this comes in its text
abbrev pub ready_where_comes : (Machine → Ready) → Config → Coming → Ready
ready_where_comes next c (passed_to cur) = next (runs (record c { at = cur }))
ready_where_comes next c (step_comes m i cur) = step m i None (record c { at = cur })
ready_where_comes next c (block_comes b bs) = block b bs c
ready_where_comes next c end_comes = next (after_text_end c c.callers)
ready_where_comes next c (fault_comes e) = faulty c e

-- what a run is ready for at this moment: a further step of the same token, or what comes
abbrev pub ready_at : (Machine → Ready) → Config → Option Further → Ready
ready_at next c (Some f) = step f.modifiers f.item (Some f.work) c
ready_at next c None = ready_where_comes next c (pass c.profile c.at)

-- the same within so many moves
unfoldable pub ready_within : ℕ → Machine → Ready
ready_within n (halts c e) = finished c e
ready_within zero (runs c) = finished c None
ready_within (suc n) (runs c) = ready_at (ready_within n) c c.further

-- the bytes that are left of the texts that have called
unfoldable pub bytes_of_callers : List Caller → ℕ
bytes_of_callers [] = 0
bytes_of_callers (b ∷ bs) = suc (length b.left) + bytes_of_callers bs

-- the bytes that may be passed
abbrev pub bytes_left : Machine → ℕ
bytes_left (runs c) = suc (length c.at.left + bytes_of_callers c.callers)
bytes_left (halts c e) = 0

-- what the machine is ready for, once all is passed that uses no step
unfoldable pub ready_of : Machine → Ready
ready_of m = ready_within (suc (bytes_left m)) m

-- after the step for which a run is ready, which one of the limit pays
abbrev pub after_paid_step : Ready → Machine
after_paid_step (step m i work c) = after_token_step m i work c
after_paid_step (block b bs c) = runs_or_halts c (after_block_step c.profile b bs c.at)
after_paid_step (faulty c e) = halts c (Some e)
after_paid_step (finished c e) = halts c e

-- what a run comes to: its state, the bytes typed, the load, what is left of its limit, and its code
pub record Final : Type 0 where
  pub state : State
  pub typed : List ℕ
  pub load : ℕ
  pub fuel : ℕ
  pub code : Option Code

abbrev pub final : ℕ → Config → Option Code → Final
final n c e = record { state = c.state; typed = c.typed; load = c.load; fuel = n; code = e }

-- A step that is reached without fuel isn't begun.
abbrev pub final_without_fuel : Ready → Final
final_without_fuel (faulty c e) = final 0 c (Some e)
final_without_fuel (finished c e) = final 0 c e
final_without_fuel (step m i work c) = final 0 c (Some code.Lim)
final_without_fuel (block b bs c) = final 0 c (Some code.Lim)

-- With fuel it is taken, and the run goes on with one less.
abbrev pub final_with_fuel : ℕ → (Machine → Final) → Ready → Final
final_with_fuel n next (faulty c e) = final (suc n) c (Some e)
final_with_fuel n next (finished c e) = final (suc n) c e
final_with_fuel n next r = next (after_paid_step r)

-- the run under a limit of steps
unfoldable pub run_within : ℕ → Machine → Final
run_within zero m = final_without_fuel (ready_of m)
run_within (suc n) m = final_with_fuel n (run_within n) (ready_of m)

-- the machine after so many steps
unfoldable pub after_steps : ℕ → Machine → Machine
after_steps zero m = m
after_steps (suc n) m = after_steps n (after_paid_step (ready_of m))

abbrev pub start_config : State → List ℕ → Config
start_config s text = record {
  profile = s.profile;
  state = s;
  typed = [];
  load = 0;
  text = text;
  at = record { args = no_arguments; left = text; blocks = [] };
  callers = [];
  further = None;
}

-- the state, the bytes typed and the load at this moment
pub record Now : Type 0 where
  pub state : State
  pub typed : List ℕ
  pub load : ℕ

abbrev pub now_of : Machine → Now
now_of (runs c) = record { state = c.state; typed = c.typed; load = c.load }
now_of (halts c e) = record { state = c.state; typed = c.typed; load = c.load }
