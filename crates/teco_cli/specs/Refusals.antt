-- Why a line is refused: what it is told as, its text and its status.
use Rattle.std.specs.Prelude.{ℕ, List, ◌++◌, codes, ◌≡◌, ◌≢◌, IfSome, Option, Some, option_map, Result, Ok, Err}
use Rattle.std.specs.String.{string_bytes}
use Rattle.std.specs.declared.string.String.{String}
use Rattle.std.specs.declared.alloc.Global.{Global}
use Rattle.clap.specs.declared.error.kind.ErrorKind.{ErrorKind}
use Rattle.clap.specs.declared.error.kind.ErrorKind.TheVariants as kind
use Rattle.teco_cli.specs.declared.fault.LineFault.{LineFault}
use Rattle.teco_cli.specs.declared.fault.LineFault.TheVariants as line_fault
use Rattle.teco_cli.specs.declared.refusal.RefusedAs.{RefusedAs}
use Rattle.teco_cli.specs.declared.refusal.RefusedAs.TheVariants.{Help, Version, Faulty, NoMemory}
use Rattle.teco_cli.specs.declared.refusal.Refusal.{Refusal}

-- What a line is told as where the parser has an error of this kind: it asks for the help or the version, the parser
-- was refused memory for it, or it is faulty.
abbrev pub IsToldAs : RefusedAs → ErrorKind → Type 0
IsToldAs Help k = k ≡ kind.DisplayHelp
IsToldAs Version k = k ≡ kind.DisplayVersion
IsToldAs NoMemory k = k ≡ kind.OutOfMemory
IsToldAs Faulty k = (k ≢ kind.DisplayHelp) × (k ≢ kind.DisplayVersion) × (k ≢ kind.OutOfMemory)

-- 3, or 0 where the line asks for the help or the version
abbrev pub status_of_refusal : RefusedAs → ℕ
status_of_refusal Help = 0
status_of_refusal Version = 0
status_of_refusal Faulty = 3
status_of_refusal NoMemory = 3

-- The text is the bytes that an error shows, if its type tells them.
abbrev pub IsShown : Option (List ℕ) → String Global → Type 0
IsShown output text = IfSome output (λ shown. string_bytes text ≡ shown)

-- the text of a faulty line of a program with this usage
abbrev pub fault_text : List ℕ → List ℕ → List ℕ
fault_text why usage = codes "error: " ++ why ++ codes "\n\nUsage: " ++ usage
    ++ codes "\n\nFor more information, try '--help'." ++ codes "\n"

-- The line is faulty, and its text says why, and the usage.
pub record IsFaulty (why usage : List ℕ) (refusal : Refusal) : Type 0 where
  pub refused_as : refusal.refused_as ≡ Faulty
  pub text : option_map string_bytes refusal.text ≡ Some (fault_text why usage)

-- A refusal is told as it is, and want of memory for it as that.
abbrev pub fault_for : {E : Type 0} → Result Refusal E → LineFault
fault_for (Ok refusal) = line_fault.Refused refusal
fault_for (Err refused) = line_fault.NoMemory
