-- How a watch follows a run.
use Rattle.std.specs.Prelude.{◌≡◌, ℕ, ◌+◌, Bool, List, [], length}
use Rattle.teco_core.specs.declared.profile.Profile.{Profile}
use Rattle.teco_store.specs.declared.desk.Desk.{Ghosts as DeskView}
use Rattle.teco_io.specs.declared.terminal.Terminal.{Ghosts as TerminalView}
use Rattle.teco_exec.specs.Machine.{Caller}
use Rattle.teco_exec.specs.Places.{CallToken, HaveCalled, IsCallOf, Wanted, wanted_in}
use Rattle.teco_exec.specs.Running.{Continuation, Origin, RunGoesOn, at_register_call, caller, host}
use Rattle.teco_exec.specs.declared.cursor.Cursor.{Cursor}
use Rattle.teco_exec.specs.declared.flow.Steps.{Steps}

-- In a profile, from a continuation of a text at this depth, to which these calls have led, a watch has followed a run for so many
-- steps, if it had followed it so far, whatever it seeks there.
abbrev pub KeepsWatch : {D T W : Type 0} → Profile → DeskView D → TerminalView T → (W → Wanted → ℕ → Type 0) → ℕ → D × T × Steps
    → (List Caller → Continuation) → W → W → ℕ → Type 0
KeepsWatch p desk terminal follows depth old from before after done =
    (o : Origin) (callers : List Caller) (calls : List CallToken) → length callers ≡ depth → HaveCalled p calls callers []
    → RunGoesOn o (host desk terminal old) (from callers)
    → (wanted : ℕ → ℕ → Bool) (first : ℕ) → follows before (wanted_in o.state o.text wanted first) old.2.done
    → follows after (wanted_in o.state o.text wanted first) done

-- The same, where this cursor's text has called that of a register, and the watch has been told of the step that calls.
abbrev pub KeepsWatchInside : {D T W : Type 0} → DeskView D → TerminalView T → (W → Wanted → ℕ → Type 0) → ℕ → D × T × Steps
    → Cursor → ℕ → W → W → ℕ → Type 0
KeepsWatchInside desk terminal follows depth old c q before after done =
    (o : Origin) (callers : List Caller) (x : CallToken) (calls : List CallToken) → length callers ≡ depth
    → IsCallOf c.text.profile (caller c) x → HaveCalled c.text.profile calls callers []
    → RunGoesOn o (host desk terminal old) (at_register_call c q callers)
    → (wanted : ℕ → ℕ → Bool) (first : ℕ) → follows before (wanted_in o.state o.text wanted first) (old.2.done + 1)
    → follows after (wanted_in o.state o.text wanted first) done
