-- The words that a program was called with, and what line they say.
use Rattle.std.specs.Prelude.{◌≡◌, ◌++◌, ⊤, ℕ, List, Option, Some, None, Result, Ok, Err, codes, map}
use Rattle.std.specs.Fmt.{decimal}
use Rattle.std.specs.String.{string_bytes}
use Rattle.std.specs.declared.alloc.Global.{Global}
use Rattle.std.specs.declared.string.String.{String}
use Rattle.std.specs.declared.vec.Vec.{Vec}
use Rattle.clap.specs.Words.{Text}
use Rattle.teco_cli.specs.Refusals.{IsFaulty}
use Rattle.teco_cli.specs.declared.fault.LineFault.{LineFault}
use Rattle.teco_cli.specs.declared.fault.LineFault.TheVariants.{NoMemory, Refused}

-- the words, or why they were not given
abbrev pub Words : Type 0
Words = Result (Vec (String Global) Global) LineFault

-- The words, where they were given, say this line: `says` tells which words say which line.
abbrev pub IsLineIn : {L : Type 0} → (List Text → L → Type 0) → Words → L → Type 0
IsLineIn says (Ok words) line = says (map string_bytes words.items) line
IsLineIn says (Err fault) line = ⊥

-- Why there is no line: the words were not given, or they say none, as `lacks` tells.
abbrev pub IsFaultIn : (List Text → LineFault → Type 0) → Words → LineFault → Type 0
IsFaultIn lacks (Ok words) fault = lacks (map string_bytes words.items) fault
IsFaultIn lacks (Err given) fault = fault ≡ given

-- what is told of an argument that is not UTF-8, by its number if that was found
abbrev pub why_not_text : Option ℕ → List ℕ
why_not_text (Some number) = codes "argument " ++ decimal number ++ codes " is not UTF-8 text"
why_not_text None = codes "an argument is not UTF-8 text"

-- Why the words of a program with this usage were not given: memory was refused, or one of them is not UTF-8 and so the line is faulty.
abbrev pub AreNotGiven : List ℕ → LineFault → Type 0
AreNotGiven usage NoMemory = ⊤
AreNotGiven usage (Refused refusal) = (number : Option ℕ) × IsFaulty (why_not_text number) usage refusal
