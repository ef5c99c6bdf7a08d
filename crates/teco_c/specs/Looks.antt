-- What the calls that look at a session tell of it. Each also says that the handle is the same.
use Rattle.std.specs.Prelude.{◌≡◌, ℕ, List, Bool, true, false, if◌then◌else◌, Option, Some, None, option_map, slice_get}
use Rattle.teco_core.specs.Register.{Content, content, register_of}
use Rattle.teco_core.specs.declared.case_mode.CaseMode.{CaseMode}
use Rattle.teco_core.specs.declared.case_mode.CaseMode.TheVariants.{Exact, Either}
use Rattle.teco_core.specs.declared.profile.Profile.{Profile}
use Rattle.teco_core.specs.declared.profile.Profile.TheVariants.{Named, Wide}
use Rattle.teco_store.specs.State.{State}
use Rattle.teco_session.specs.History.{NotedString, present}
use Rattle.teco_session.specs.Kept.{history_of}
use Rattle.teco_ffi.specs.Handle.{Kept}
use Rattle.teco_ffi.specs.Rooms.{filled}
use Rattle.teco_ffi.specs.declared.answers.TheConstants.{CLOSED, OUTSIDE}

-- the editing state
abbrev pub state_now : Kept → State
state_now kept = present (history_of kept)

-- the string at a place of the history, if it has so many
abbrev pub string_of : ℕ → Kept → Option NotedString
string_of i kept = slice_get (history_of kept).notes i

-- what the register of a name holds, if it is a name
abbrev pub register_named_by : ℕ → Kept → Option Content
register_named_by name kept = option_map (content (state_now kept).registers) (register_of name)

-- whether a search finds a letter in either case
abbrev pub is_either : CaseMode → Bool
is_either Exact = false
is_either Either = true

-- whether command strings are read in the wide language
abbrev pub is_wide : Profile → Bool
is_wide Named = false
is_wide Wide = true

-- A number of it is told. A closed handle tells 0.
abbrev pub Tells : Option Kept → ℕ → ℕ → (Kept → ℕ) → Type 0
Tells None code n part = (code ≡ CLOSED) × (n ≡ 0)
Tells (Some kept) code n part = (code ≡ 0) × (n ≡ part kept)

-- Whether something is so is told by 1 and 0.
abbrev pub Says : Option Kept → ℕ → (State → Bool) → Type 0
Says None code test = code ≡ CLOSED
Says (Some kept) code test = code ≡ (if test (state_now kept) then 1 else 0)

-- A text of it is copied, as much as there is room for. A closed handle leaves the room as it was.
abbrev pub Copies : Option Kept → List ℕ → List ℕ → (Kept → List ℕ) → Type 0
Copies None before after part = after ≡ before
Copies (Some kept) before after part = after ≡ filled before (part kept)

-- What is there is told, and what is not by a number of its own, with nothing beside.
abbrev pub IsTold : {A : Type 0} → A → Option A → ℕ → A → Type 0
IsTold nothing None code n = (code ≡ OUTSIDE) × (n ≡ nothing)
IsTold nothing (Some v) code n = (code ≡ 0) × (n ≡ v)

-- The same of a handle.
abbrev pub TellsIf : {A : Type 0} → A → Option Kept → ℕ → A → (Kept → Option A) → Type 0
TellsIf nothing None code n part = (code ≡ CLOSED) × (n ≡ nothing)
TellsIf nothing (Some kept) code n part = IsTold nothing (part kept) code n

-- A text that is there is copied, and where there is none the room is left as it was.
abbrev pub IsCopied : Option (List ℕ) → List ℕ → List ℕ → Type 0
IsCopied None before after = after ≡ before
IsCopied (Some bytes) before after = after ≡ filled before bytes

abbrev pub CopiesIf : Option Kept → List ℕ → List ℕ → (Kept → Option (List ℕ)) → Type 0
CopiesIf None before after part = after ≡ before
CopiesIf (Some kept) before after part = IsCopied (part kept) before after
