-- How a session begins whose profile is told.
use Rattle.std.specs.Prelude.{ℕ, List, Option}
use Rattle.teco_core.specs.declared.profile.Profile.{Profile}
use Rattle.teco_store.specs.State.{State, paged_beginning, with_profile}
use Rattle.teco_session.specs.History.{History, history_from}

-- the beginning in this profile, with this input and pages of so many lines
abbrev pub begun_state : Profile → ℕ → List ℕ → State
begun_state p lines input = with_profile p (paged_beginning lines input)

-- the history of a session that begins there, and keeps so many strings
abbrev pub begun_history : Profile → ℕ → Option ℕ → List ℕ → History
begun_history p lines depth input = history_from depth (begun_state p lines input)
