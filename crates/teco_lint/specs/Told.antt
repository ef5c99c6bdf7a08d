-- Which remarks are told.
use Rattle.std.specs.Prelude.{◌≡◌, ◌⊎◌, ◌<◌, ◌+◌, ◌-◌, ◌^◌, ℕ, Bool, true, false, List, length, Some, is_some, min}
use Rattle.std.specs.List.{list_any}
use Rattle.teco_check.specs.Walk.{first_of}
use Rattle.teco_check.specs.declared.faults.Fault.{Fault}
use Rattle.teco_check.specs.declared.faults.Wrong.{Wrong}
use Rattle.teco_check.specs.declared.faults.Wrong.TheVariants as wrongs
use Rattle.teco_lint.specs.declared.listing.TheConstants.{MOST_REMARKS}
use Rattle.teco_lint.specs.declared.remarks.FaultIn.{FaultIn}
use Rattle.teco_lint.specs.declared.remarks.Remark.{Remark}
use Rattle.teco_lint.specs.declared.remarks.What.{What}
use Rattle.teco_lint.specs.declared.remarks.What.TheVariants as whats
use Rattle.teco_core.specs.declared.profile.Profile.{Profile}

abbrev pub is_in_text : Wrong → Bool
is_in_text wrongs.InText = true
is_in_text w = false

-- A run that comes to it ends by its code. What no check looks into may be fine.
abbrev pub ends_run : Wrong → Bool
ends_run wrongs.Calls = false
ends_run wrongs.Loads = false
ends_run wrongs.InText = false
ends_run wrong = true

abbrev pub says_fault : What → Bool
says_fault (whats.Fault f) = true
says_fault w = false

abbrev pub is_fault : Remark → Bool
is_fault r = says_fault r.what

-- It tells of a fault, and not of what no check looks into.
abbrev pub says_ended : What → Bool
says_ended (whats.Fault f) = ends_run f.wrong
says_ended w = false

abbrev pub tells_fault : Remark → Bool
tells_fault r = says_ended r.what

-- the place so far after another one, as far as numbers go
abbrev pub place_after : ℕ → ℕ → ℕ
place_after from at = min (from + at) (2 ^ 64 - 1)

-- a fault of a text that has so many bytes, as one of the text itself
abbrev pub own_fault : ℕ → Fault → FaultIn
own_fault len f = record { at = f.at; wrong = f.wrong; inside = record { from = 0; to = len } }

-- the remark that tells a fault of a command string, which begins at this place of the commands
abbrev pub moved : FaultIn → ℕ → Remark
moved f from = record {
  at = place_after from f.at;
  what = whats.Fault record { at = place_after from f.at; wrong = f.wrong; inside = record { from = place_after from f.inside.from; to = place_after from f.inside.to } };
}

-- One of the remarks passes the test; or there are more than are told.
abbrev pub IsTold : (Remark → Bool) → List Remark → Type 0
IsTold test remarks = (list_any test remarks ≡ true) ⊎ (MOST_REMARKS < length remarks)

-- The remark is one of these: each test that it passes is passed by one of them. Or there are more than are told.
abbrev pub HasRemark : List Remark → Remark → Type 0
HasRemark remarks r = (test : Remark → Bool) → test r ≡ true → IsTold test remarks

-- What is told of a command string that begins at a place: its first fault, at its place. Where that is in a text which the string puts
-- where code is, some fault is told.
pub record TellsFirst (p : Profile) (code : List Bool) (remarks : List Remark) (from : ℕ) (string : List ℕ) : Type 0 where
  pub own : (f : Fault) → first_of p code string ≡ Some f → is_in_text f.wrong ≡ false → HasRemark remarks (moved (own_fault (length string) f) from)
  pub some : is_some (first_of p code string) ≡ true → IsTold is_fault remarks
