-- The run of a command string in a session.
use Rattle.std.specs.Prelude.{◌≡◌, ℕ, List, true, false, None}
use Rattle.teco_io.specs.Terminal.{Shows}
use Rattle.teco_io.specs.declared.terminal.Terminal.{Ghosts as TerminalView}
use Rattle.teco_session.specs.Answers.{answer_code, is_unbegun}
use Rattle.teco_session.specs.History.{present}
use Rattle.teco_session.specs.Kept.{KeptSession, history_of}
use Rattle.teco_session.specs.Step.{RunStep, is_terminal_failure}
use Rattle.teco_session.specs.declared.request.Answer.{Answer}

-- From an old session and terminal a string was run to new ones, with this answer, under this limit.
pub record RunsIn {T : Type 0} (terminal : TerminalView T) (old new : KeptSession × T) (text : List ℕ)
    (answer : Answer) (limit : ℕ) : Type 0 where
  -- It is a step of the history, and what it typed is shown.
  pub step : (typed : List ℕ)
      × RunStep limit (history_of old.0) text answer typed (history_of new.0)
      × Shows (terminal.screen old.1) (terminal.screen new.1) typed (is_terminal_failure answer)
  -- A string that makes the session done ends with no code.
  pub exit : (present (history_of old.0)).is_done ≡ false → (present (history_of new.0)).is_done ≡ true
      → answer_code answer ≡ None
  -- A string that is not begun leaves the session as it was.
  pub same : is_unbegun answer ≡ true → new.0 ≡ old.0
