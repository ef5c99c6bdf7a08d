-- What the calls do to the session of a handle.
use Rattle.std.specs.Prelude.{◌≡◌, ◌⊎◌, ℕ, ◌<◌, List, length, true, Option, Some, None, if◌then◌else◌, ◌==◌}
use Rattle.teco_core.specs.Code.{number_of}
use Rattle.teco_core.specs.declared.code.Code.TheVariants.{Ntu, Ntr}
use Rattle.teco_core.specs.declared.profile.Profile.{Profile}
use Rattle.teco_exec.specs.Runs.{Answers, RunsWithin}
use Rattle.teco_session.specs.Answers.{is_unbegun, string_outcome}
use Rattle.teco_session.specs.declared.request.Answer.{Answer}
use Rattle.teco_session.specs.History.{undone, redone, rewound, without_undone}
use Rattle.teco_session.specs.Kept.{history_of, session_over, reverted, applied, cut_to, forgotten}
use Rattle.teco_session.specs.Step.{RunStep}
use Rattle.teco_store.specs.State.{Full, new_paged_full, with_body, with_profile}
use Rattle.teco_ffi.specs.Handle.{Kept}
use Rattle.teco_ffi.specs.declared.answers.TheConstants.{CLOSED}

-- A closed handle answers its number, and stays closed.
abbrev pub StaysClosed : Option Kept → ℕ → Option Kept → Type 0
StaysClosed None code new = (code ≡ CLOSED) × (new ≡ None)
StaysClosed (Some old) code new = Unit {0}

-- the depth that is asked for: 0 asks for every string
abbrev pub depth_asked : ℕ → Option ℕ
depth_asked n = if n == 0 then None else Some n

-- the editor at its beginning, whose strings are read in this profile, with this input and pages of so many lines
abbrev pub begun_editor : Profile → ℕ → List ℕ → Full
begun_editor p lines input = with_body (new_paged_full lines input) (with_profile p (new_paged_full lines input).body)

-- and the session that is opened over it, which keeps so many strings
abbrev pub begun_session : Profile → ℕ → Option ℕ → List ℕ → Kept
begun_session p lines depth input = session_over depth (begun_editor p lines input)

-- It goes back by a string, or there is none and it is the same.
abbrev pub Undoes : Kept → ℕ → Kept → Type 0
Undoes old code new =
    ((code ≡ 0) × (0 < old.cursor) × (new ≡ reverted old) × (history_of new ≡ undone (history_of old)))
    ⊎ ((code ≡ number_of Ntu) × (old.cursor ≡ 0) × (new ≡ old))

-- It goes on by a string, or there is none and it is the same.
abbrev pub Redoes : Kept → ℕ → Kept → Type 0
Redoes old code new =
    ((code ≡ 0) × (old.cursor < length (history_of old).notes) × (new ≡ applied old)
    × (history_of new ≡ redone (history_of old)))
    ⊎ ((code ≡ number_of Ntr) × (old.cursor ≡ length (history_of old).notes) × (new ≡ old))

-- It goes back to the state after the first n steps of the last string, or there is none and it is the same.
abbrev pub Rewinds : ℕ → Kept → ℕ → Kept → Type 0
Rewinds n old code new =
    ((code ≡ 0) × (0 < old.cursor) × (new ≡ cut_to n old) × (history_of new ≡ rewound n (history_of old)))
    ⊎ ((code ≡ number_of Ntu) × (old.cursor ≡ 0) × (new ≡ old))

-- It drops the undone strings, and nothing else changes.
abbrev pub Forgets : Kept → ℕ → Kept → Type 0
Forgets old code new =
    (code ≡ 0) × (new ≡ forgotten old) × (history_of new ≡ without_undone (history_of old))

-- A string runs on it with this answer and these typed bytes; where it is not begun, it is the same.
abbrev pub RunsTo : ℕ → Kept → List ℕ → Answer → List ℕ → Kept → Type 0
RunsTo limit old text answer typed new =
    RunStep limit (history_of old) text answer typed (history_of new) × (is_unbegun answer ≡ true → new ≡ old)

-- The same under a limit, the given one or that of a string that was broken off, by what was answered to whether it is to stop.
abbrev pub RunsToWithin : Answers → ℕ → Kept → List ℕ → Answer → List ℕ → Kept → Type 0
RunsToWithin answered limit old text answer typed new =
    RunsWithin answered limit (string_outcome answer) (λ l. RunsTo l old text answer typed new)
