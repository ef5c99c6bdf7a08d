-- Commands whose texts run as a text without a fault does.
use Rattle.std.specs.Prelude.{◌≡◌, ℕ, Bool, false, List, None}
use Rattle.std.specs.List.{AllByRecursion}
use Rattle.teco_scan.specs.Stream.{Asks, requests}
use Rattle.teco_scan.specs.Stream.Asks.{Run, Undo, Redo, Rewind}
use Rattle.teco_check.specs.CleanRuns.{IsRight}
use Rattle.teco_lint.specs.Strings.{is_request}
use Rattle.teco_core.specs.declared.profile.Profile.{Profile}

-- If the string is run, it runs so, where these registers hold code: it ends by no code of a fault, and leaves them with clean texts.
abbrev pub IsRightString : Profile → List Bool → List ℕ → Type 0
IsRightString p code string = is_request string ≡ false → IsRight p code string None

-- the same of what a text of the stream asks
abbrev pub IsRightIfRun : Profile → List Bool → Asks → Type 0
IsRightIfRun p code (Run text) = IsRight p code text None
IsRightIfRun p code (Undo n) = Unit {0}
IsRightIfRun p code (Redo n) = Unit {0}
IsRightIfRun p code (Rewind n) = Unit {0}

-- Each text that a run of the commands reads does.
abbrev pub AreRight : Profile → List Bool → List ℕ → Type 0
AreRight p code commands = AllByRecursion (IsRightIfRun p code) (requests commands)
