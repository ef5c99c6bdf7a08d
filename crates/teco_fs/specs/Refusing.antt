-- What is told of a line that is refused, on the terminal and on standard error, and with which status.
use Rattle.std.specs.Prelude.{◌≡◌, ◌⊎◌, ℕ, List, Bool, Option, Some, None}
use Rattle.std.specs.String.{string_bytes}
use Rattle.std.specs.declared.string.String.{String}
use Rattle.std.specs.declared.alloc.Global.{Global}
use Rattle.teco_io.specs.Terminal.{Screen, Shows}
use Rattle.teco_cli.specs.Words.{IsFaultIn, Words}
use Rattle.teco_cli.specs.declared.fault.LineFault.{LineFault}
use Rattle.teco_cli.specs.declared.fault.LineFault.TheVariants as line_fault
use Rattle.teco_cli.specs.declared.refusal.RefusedAs.{RefusedAs}
use Rattle.teco_cli.specs.declared.refusal.RefusedAs.TheVariants.{Help, Version, Faulty, NoMemory}
use Rattle.teco_fs.specs.Console.{Console, ShowsOrFails, ShowsWhole, ShowsFront}

-- All of the text is shown, or a beginning of it and then the terminal fails.
abbrev pub Tells : Screen → Screen → List ℕ → Type 0
Tells old new text = ShowsOrFails (Shows old new) text

-- The text is told; where memory was refused for it, that is.
abbrev pub TellsText : (List ℕ → Bool → Type 0) → List ℕ → Option (String Global) → Type 0
TellsText showed no_memory (Some text) = ShowsOrFails showed (string_bytes text)
TellsText showed no_memory None = ShowsOrFails showed no_memory

-- All of the text is shown, and the status is 0; or it is 1, since a beginning of it was shown and then the terminal
-- failed.
abbrev pub IsAnswered : (List ℕ → Bool → Type 0) → List ℕ → ℕ → Type 0
IsAnswered showed text status = ((status ≡ 0) × ShowsWhole showed text) ⊎ ((status ≡ 1) × ShowsFront showed text)

-- What was asked for is shown on the terminal, and standard error stays as it is. Where memory was refused for its
-- text, that is told on standard error, and the status is 1.
abbrev pub ShowsAsked : Console → List ℕ → Option (String Global) → ℕ → Type 0
ShowsAsked seen no_memory (Some text) status = IsAnswered seen.terminal.showed (string_bytes text) status × seen.errors.still
ShowsAsked seen no_memory None status = (status ≡ 1) × seen.terminal.still × ShowsOrFails seen.errors.showed no_memory

-- What is done of a refusal, by what the line is: the help and the version are shown. Of any other line it is told on
-- standard error why it is refused, the terminal stays as it is, and the status is 3.
abbrev pub IsRefused : Console → List ℕ → RefusedAs → Option (String Global) → ℕ → Type 0
IsRefused seen no_memory Help text status = ShowsAsked seen no_memory text status
IsRefused seen no_memory Version text status = ShowsAsked seen no_memory text status
IsRefused seen no_memory Faulty text status =
    (status ≡ 3) × seen.terminal.still × TellsText seen.errors.showed no_memory text
IsRefused seen no_memory NoMemory text status =
    (status ≡ 3) × seen.terminal.still × TellsText seen.errors.showed no_memory text

-- What is done where there is no line. If memory was refused to the program, that is told on standard error, and the
-- status is 1.
abbrev pub IsRefusedBy : Console → List ℕ → LineFault → ℕ → Type 0
IsRefusedBy seen no_memory line_fault.NoMemory status =
    (status ≡ 1) × seen.terminal.still × ShowsOrFails seen.errors.showed no_memory
IsRefusedBy seen no_memory (line_fault.Refused refusal) status = IsRefused seen no_memory refusal.refused_as refusal.text status

-- The words say no line, as `lacks` tells, and nothing is done but that that is told.
pub record Refuses (seen : Console) (no_memory : List ℕ) (lacks : List (List ℕ) → LineFault → Type 0) (words : Words) (still : Type 0)
    (status : ℕ) : Type 0 where
  pub fault : LineFault
  pub fault_is : IsFaultIn lacks words fault
  pub refused : IsRefusedBy seen no_memory fault status
  pub kept : still
