-- What a listener hears of.
use Rattle.std.specs.Prelude.{ℕ, List, Option, Bool}
use Rattle.teco_core.specs.declared.code.Code.{Code}
use Rattle.teco_cli.specs.declared.line.Line.{Line}
use Rattle.teco_journal.specs.Events.{Event}
use Rattle.teco_session.specs.Kept.{KeptSession}
use Rattle.teco_session.specs.declared.request.Answered.{Answered}
use Rattle.teco_serve.specs.declared.alarm.Bounds.{Bounds}
use Rattle.teco_serve.specs.declared.fate.Fate.{Fate}

-- A text that begins after so many bytes of the stream was run within these bounds, and was answered so; or it asked for undos, redos or
-- a rewind, and a refusal has this code. The serving ended before these bytes were run, in an exit or a fault, or by the end of the stream.
-- The run over this input of the line has this fate. A request did this to the session, and its answer is not shown yet. A request that was
-- refused did nothing, and is not told.
pub data Heard : Type 0 where
  Ran : List ℕ → ℕ → Answered → Bounds → KeptSession → Heard
  Moved : ℕ → Option Code → KeptSession → Heard
  Left : List ℕ → Bool → Heard
  Finished : Line → List ℕ → Fate → Heard
  Did : Event → Heard
