-- The run of a command string on a desk and a terminal.
use Rattle.std.specs.Prelude.{◌≡◌, ℕ, List, true, false, Some, None}
use Rattle.teco_core.specs.declared.code.Code.TheVariants.{Mem}
use Rattle.teco_scan.specs.Lists.{nodes}
use Rattle.teco_store.specs.declared.desk.Desk.{Ghosts as DeskView}
use Rattle.teco_io.specs.Terminal.{Shows}
use Rattle.teco_io.specs.declared.terminal.Terminal.{Ghosts as TerminalView}
use Rattle.teco_exec.specs.Quiet.{takes_no_memory}
use Rattle.teco_exec.specs.Runs.{Runs, is_tty, trail_of}
use Rattle.teco_exec.specs.StringMeaning.{string_meaning}
use Rattle.teco_exec.specs.declared.outcome.Outcome.{Outcome}

-- From an old desk and terminal a string was run to new ones, and ended so under this limit.
pub record RunsOn {D T : Type 0} (desk : DeskView D) (terminal : TerminalView T) (old new : D × T)
    (text : List ℕ) (outcome : Outcome) (limit : ℕ) : Type 0 where
  -- It ended as it means, or by want of memory or a failed terminal, and its bytes are shown.
  pub run : (typed : List ℕ)
      × Runs (desk.state old.0) text limit outcome typed (desk.state new.0)
      × Shows (terminal.screen old.1) (terminal.screen new.1) typed (is_tty outcome)
  -- The state is what it means after the steps that were done, however it ended.
  pub again : desk.state new.0 ≡ (string_meaning (desk.state old.0) text outcome.steps).state
  -- The desk was told so after each of these steps.
  pub follows : (floor : ℕ) → desk.follows old.0 (trail_of (desk.state old.0) text floor 0)
      → desk.follows new.0 (trail_of (desk.state old.0) text floor outcome.steps)
  -- Values and arithmetic alone never end for want of memory.
  pub no_memory : takes_no_memory (nodes (desk.state old.0).profile text) ≡ true → outcome.code ≡ Some Mem → ⊥
  -- A string that makes the editor done ends well.
  pub exit : (desk.state old.0).is_done ≡ false → (desk.state new.0).is_done ≡ true → outcome.code ≡ None
