-- What a run of a clean text leaves, and how it may end.
use Rattle.std.specs.Prelude.{◌≡◌, ℕ, Bool, true, false, List, Option, Some, None}
use Rattle.teco_core.specs.declared.code.Code.{Code}
use Rattle.teco_core.specs.declared.code.Code.TheVariants as codes
use Rattle.teco_core.specs.declared.profile.Profile.{Profile}
use Rattle.teco_core.specs.Register.{Content, content}
use Rattle.teco_store.specs.State.{State}
use Rattle.teco_exec.specs.StringMeaning.{StringMeaning, string_meaning}
use Rattle.teco_check.specs.Checked.{held}
use Rattle.teco_check.specs.Clean.{IsClean}
use Rattle.teco_check.specs.declared.faults.Fault.{Fault}

-- the codes of a text's own faults, and of a jump to nowhere; PDO is not here, since it may also come of what is pushed or called
abbrev pub is_static : Code → Bool
is_static codes.Ill = true
is_static codes.Iqn = true
is_static codes.Iqc = true
is_static codes.Utc = true
is_static codes.Bni = true
is_static codes.Tag = true
is_static c = false

-- the code registers hold texts that are clean in a profile
abbrev pub HoldsCode : Profile → (ℕ → Bool) → List Content → Type 0
HoldsCode p code registers = (q : ℕ) → code q ≡ true → IsClean p code (content registers q).text

-- Texts are read in this profile, and the code registers hold texts that are clean in it.
abbrev pub IsCleanState : Profile → (ℕ → Bool) → State → Type 0
IsCleanState p code s = HoldsCode p code s.registers × (s.profile ≡ p)

-- A run of a clean text in a clean state of a profile leaves a clean state of that profile, and ends by none of these codes.
pub record StaysClean (p : Profile) (code : ℕ → Bool) (r : StringMeaning) : Type 0 where
  pub state : IsCleanState p code r.state
  pub codes : (c : Code) → r.code ≡ Some c → is_static c ≡ false

abbrev pub NeverFaults : Type 0
NeverFaults = (p : Profile) (code : ℕ → Bool) (text : List ℕ) (s : State) (limit : ℕ) → IsClean p code text → IsCleanState p code s
    → StaysClean p code (string_meaning s text limit)

-- Where no fault is told, no run from a clean state ends by such a code; and it leaves a clean state.
abbrev pub IsRight : Profile → List Bool → List ℕ → Option Fault → Type 0
IsRight p code text (Some fault) = Unit {0}
IsRight p code text None = (s : State) (limit : ℕ) → IsCleanState p (held code) s → StaysClean p (held code) (string_meaning s text limit)
