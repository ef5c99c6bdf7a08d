-- How the strings of commands end in a run where a check found no fault in them.
use Rattle.std.specs.Prelude.{◌≡◌, ℕ, List, Bool, false, Option, Some}
use Rattle.std.specs.List.{AllByRecursion}
use Rattle.teco_core.specs.declared.code.Code.{Code}
use Rattle.teco_core.specs.declared.profile.Profile.{Profile}
use Rattle.teco_check.specs.Checked.{held}
use Rattle.teco_check.specs.CleanRuns.{IsCleanState, is_static}
use Rattle.teco_lint.specs.Right.{AreRight}
use Rattle.teco_session.specs.Answers.{answer_code}
use Rattle.teco_session.specs.History.{History, history_from}
use Rattle.teco_session.specs.Step.{Reply}
use Rattle.teco_serve.specs.Exchange.{Allowance, Exchange}
use Rattle.teco_store.specs.State.{State}
use Rattle.teco_serve.specs.Serving.{AreFirstOf, Exchanges}

-- The reply ends by no code of a fault.
abbrev pub TellsNoFault : Reply → Type 0
TellsNoFault reply = (c : Code) → answer_code reply.answer ≡ Some c → is_static c ≡ false

-- no reply of the exchanges does
abbrev pub TellNoFault : List Exchange → Type 0
TellNoFault exchanges = AllByRecursion (λ x. AllByRecursion TellsNoFault x.replies) exchanges

-- No serving has such a reply, if the texts of its commands run as ones without a fault do, which a check says. It begins in any clean
-- state, with any depth. Some texts may not be served, and some may be undone, redone or rewound,
-- broken off, or end for want of memory.
abbrev pub NeverAnswersFault : Allowance → Type 0
NeverAnswersFault allowed = (p : Profile) (code : List Bool) (commands : List ℕ) → AreRight p code commands
    → (first : State) → IsCleanState p (held code) first
    → (depth : Option ℕ) (exchanges : List Exchange) (new : History) → AreFirstOf exchanges commands
    → Exchanges allowed (history_from depth first) exchanges new → TellNoFault exchanges
