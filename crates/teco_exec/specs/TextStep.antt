-- One step of a text: what is seen of it before and after.
use Rattle.std.specs.Prelude.{◌≡◌, ◌<◌, ◌≤◌, ◌⊎◌, ℕ, List, Some, length}
use Rattle.teco_core.specs.declared.code.Code.TheVariants.{Lim}
use Rattle.teco_store.specs.declared.desk.Desk.{Ghosts as DeskView}
use Rattle.teco_io.specs.declared.terminal.Terminal.{Ghosts as TerminalView}
use Rattle.teco_exec.specs.Machine.{Caller, Now}
use Rattle.teco_exec.specs.Places.{IsReadAt, call_token}
use Rattle.teco_exec.specs.Quiet.{IsQuiet}
use Rattle.teco_exec.specs.Running.{Alike, GoesOn, GoesQuietly, HasStood, OnCall, OnLast, RunLeads, at_cursor, reached_by_flow}
use Rattle.teco_exec.specs.Runs.{Answers}
use Rattle.teco_exec.specs.Tokens.{CountsSteps}
use Rattle.teco_exec.specs.View.{cursor}
use Rattle.teco_exec.specs.declared.cursor.Cursor.{Cursor}
use Rattle.teco_exec.specs.declared.flow.Flow.{Flow}
use Rattle.teco_exec.specs.declared.flow.Flow.TheVariants as flow
use Rattle.teco_exec.specs.declared.flow.Steps.{Steps}

-- What comes at a cursor has been passed, or its steps have been done, and this is the flow that they gave. The
-- desk, the terminal and the steps were `old` and are `new`, and the stop had answered so before and after.
pub record StepsText {D T : Type 0} (desk : DeskView D) (terminal : TerminalView T) (before after : Answers)
    (old new : D × T × Steps) (from to : Cursor) (f : Flow) : Type 0 where
  pub text : to.text ≡ from.text
  pub counts : CountsSteps before after (f ≡ flow.Stop Lim) old.2 new.2
  -- The text goes on after a step, or else by what was passed.
  pub advances : GoesOn f → (old.2.done < new.2.done) ⊎ (length (cursor to).left < length (cursor from).left)
  pub leads : RunLeads desk terminal old new (at_cursor from) (λ callers. reached_by_flow to callers f)
  pub quiet : IsQuiet from.text.profile (cursor from) → GoesQuietly to f
  -- Where the run stops here, or a step failed, the blocks are as they were, and it stood at the cursor.
  pub around : OnLast f new.2.done (λ k. (cursor to).blocks ≡ (cursor from).blocks)
  pub stood : OnLast f new.2.done (HasStood desk terminal old from)
  -- Before each step that it did it stood there too.
  pub visited : (k : ℕ) → old.2.done ≤ k → k < new.2.done → HasStood desk terminal old from k
  pub calls : OnCall f (λ q. IsReadAt from.text.profile from.text.bytes.now from.at (Some (call_token q)) (cursor to).left)

-- What uses no step was passed from one cursor to another, or nothing was: the text goes on there as it did here.
pub record GoesOnAlike (from to : Cursor) : Type 0 where
  pub text : to.text ≡ from.text
  pub left : length (cursor to).left ≤ length (cursor from).left
  pub alike : (callers : List Caller) (now : Now) → Alike (at_cursor from callers now) (at_cursor to callers now)
  pub quiet : IsQuiet from.text.profile (cursor from) → IsQuiet to.text.profile (cursor to)
