-- One exchange: what is done for one text of the stream, and what is shown of it.
use Rattle.std.specs.Prelude.{◌≡◌, ◌≢◌, ◌≤◌, ◌⊎◌, ℕ, zero, suc, IsSomeAnd, Some, List, [], ◌∷◌, ◌++◌, Bool, true, ◌&&◌, not}
use Rattle.std.specs.Prelude.{if◌then◌else◌}
use Rattle.std.specs.Bool.{MatchBool}
use Rattle.teco_core.specs.declared.code.Code.TheVariants.{Lim}
use Rattle.teco_io.specs.Terminal.{IsFrontOf}
use Rattle.teco_exec.specs.Runs.{Answers, StillSays}
use Rattle.teco_exec.specs.declared.outcome.Outcome.{Outcome}
use Rattle.teco_session.specs.Answers.{is_refused, string_outcome}
use Rattle.teco_session.specs.History.{History, present}
use Rattle.teco_session.specs.Step.{Step, RunStep, Reply}
use Rattle.teco_session.specs.declared.request.Request.{Request}
use Rattle.teco_session.specs.declared.request.Request.TheVariants as request
use Rattle.teco_serve.specs.Alarm.{IsSet}
use Rattle.teco_scan.specs.Stream.{Asks, is_run}
use Rattle.teco_scan.specs.Stream.Asks.{Run, Undo, Redo, Rewind}
use Rattle.teco_serve.specs.Message.{replies_shown, star}
use Rattle.teco_serve.specs.declared.alarm.Bounds.{Bounds}
use Rattle.teco_serve.specs.declared.alarm.Manner.{Manner}

-- What a command string is allowed: its most steps, and after how many it was asked to stop.
pub record Allowance : Type 1 where
  pub steps : ℕ
  pub asked : ℕ → Type 0

-- One with no bound of seconds is never asked to stop, and else by an alarm that was set for just these seconds.
abbrev pub allowance : Bounds → (ℕ → ℕ → Type 0) → Allowance
allowance bounds asked = record { steps = bounds.steps; asked = λ done. IsSomeAnd bounds.seconds (λ seconds. asked seconds done) }

-- An alarm rang in a string. It was set for so many seconds before the string, and after that it was asked alone.
-- After so many steps it has answered that the string is to stop.
pub record HasRung {A : Type 0} (answered : A → Answers) (seconds done : ℕ) : Type 0 where
  pub before : A
  pub after : A
  pub begins : IsSet (answered before) seconds
  pub still : StillSays (answered before) (answered after)
  pub rings : (answered after).said done true

-- A string was broken off: it was asked to stop after the steps that it did, it ended by LIM, and it ran as under
-- a limit of just these steps.
pub record EndsEarly (allowed : Allowance) (outcome : Outcome) (RanUnder : ℕ → Type 0) : Type 0 where
  pub asked : allowed.asked outcome.steps
  pub within : outcome.steps ≤ allowed.steps
  pub code : outcome.code ≡ Some Lim
  pub ran : RanUnder outcome.steps

-- A string ran under its limit of steps, or was broken off.
abbrev pub RunsAllowed : Allowance → Outcome → (ℕ → Type 0) → Type 0
RunsAllowed allowed outcome RanUnder = RanUnder allowed.steps ⊎ EndsEarly allowed outcome RanUnder

-- An undo, a redo and a rewind go to another place of the history; a run does not.
abbrev pub MovesInHistory : Request → Type 0
MovesInHistory (request.Run text) = ⊥
MovesInHistory request.Undo = Unit {0}
MovesInHistory request.Redo = Unit {0}
MovesInHistory (request.Rewind n) = Unit {0}

-- The same request so many times, one after another; after the first that is refused the rest are dropped.
abbrev pub Repeats : ℕ → Request → ℕ → History → List Reply → History → Type 0
Repeats limit request zero old replies new = (replies ≡ []) × (new ≡ old)
Repeats limit request (suc n) old [] new = ⊥
Repeats limit request (suc n) old (reply ∷ replies) new = (mid : History) × Step limit old request reply mid
    × MatchBool (is_refused reply.answer) ((replies ≡ []) × (new ≡ mid))
    (Repeats limit request n mid replies new)

-- From the old history, what is asked may have these replies and leave the new history.
abbrev pub Does : Allowance → Asks → History → List Reply → History → Type 0
Does allowed (Run text) old replies new = (reply : Reply) × (replies ≡ reply ∷ [])
    × RunsAllowed allowed (string_outcome reply.answer) (λ limit. RunStep limit old text reply.answer reply.typed new)
Does allowed (Undo n) old replies new = Repeats allowed.steps request.Undo n old replies new
Does allowed (Redo n) old replies new = Repeats allowed.steps request.Redo n old replies new
Does allowed (Rewind n) old replies new = Repeats allowed.steps (request.Rewind n) 1 old replies new

-- an exchange: what a text asks, the history before, the replies, and the history after
pub record Exchange : Type 0 where
  pub asked : Asks
  pub before : History
  pub replies : List Reply
  pub after : History

-- A run made the session done: that is an exit, and ends the serving. A redo or a rewind is none.
abbrev pub is_exit : Asks → History → History → Bool
is_exit asked before after = is_run asked && (not (present before).is_done && (present after).is_done)

abbrev pub exits : Exchange → Bool
exits exchange = is_exit exchange.asked exchange.before exchange.after

-- what is shown of an exchange: its replies, and a star unless it ends the serving
abbrev pub exchange_shown : Manner → Exchange → List ℕ
exchange_shown manner exchange =
    replies_shown manner exchange.replies ++ (if exits exchange then [] else star manner.prompt)

-- A put failed while the last bytes were shown, of which there are some: all bytes before them are shown, a
-- beginning of them, and no more.
-- `showed` says which bytes the terminal showed, and whether it failed.
pub record BreaksOff (showed : List ℕ → Bool → Type 0) (before last : List ℕ) : Type 0 where
  pub some : last ≢ []
  pub front : List ℕ
  pub beginning : IsFrontOf front last
  pub shows : showed (before ++ front) true
