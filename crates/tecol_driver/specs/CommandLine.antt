-- What the command line says: tecol [OPTIONS] [FILE]
use Rattle.std.specs.Prelude.{◌≡◌, ◌↔◌, ◌⊎◌, ⊤, List, [], ◌∷◌, codes, None, Some, unwrap_or, Bool, true, false, ◌&&◌, ◌||◌, not, IsTrue}
use Rattle.std.specs.String.{string_bytes}
use Rattle.clap.specs.Words.{App, IsAmong, Row, Rule, Text, fault_of, first_of, matches_of, new_rule, one_of, takes}
use Rattle.clap.specs.declared.builder.action.ArgAction.TheVariants.{Set}
use Rattle.clap.specs.declared.error.kind.ErrorKind.{ErrorKind}
use Rattle.clap.specs.declared.error.kind.ErrorKind.TheVariants as kind
use Rattle.teco_cli.specs.Parsing.{program_app}
use Rattle.teco_cli.specs.OptionTable.{flag, with_rules, with_text}
use Rattle.teco_cli.specs.Refusals.{IsToldAs}
use Rattle.teco_cli.specs.Values.{IsProfile}
use Rattle.teco_cli.specs.declared.fault.LineFault.{LineFault}
use Rattle.teco_cli.specs.declared.fault.LineFault.TheVariants as line_fault
use Rattle.teco_cli.specs.declared.refusal.Refusal.{Refusal}
use Rattle.teco_cli.specs.declared.refusal.RefusedAs.TheVariants.{Faulty}
use Rattle.tecol_driver.specs.declared.line.TecolLine.{TecolLine}
use Rattle.tecol_driver.specs.declared.line.TecolMode.{TecolMode}
use Rattle.tecol_driver.specs.declared.line.TecolMode.TheVariants.{Bytes, Listing, Again, CheckSource, CheckBytes, FixSource, FixBytes}

-- FILE: any text, if it is there
abbrev pub file_rule : Rule
file_rule = record (new_rule (codes "input")) { value_names = 1; action = Some Set }

abbrev pub tecol_rules : List Rule
tecol_rules = flag (codes "reverse") (Some 114)
    ∷ flag (codes "words") (Some 119)
    ∷ flag (codes "check") (Some 99)
    ∷ flag (codes "fix") None
    ∷ with_text (codes "output") (Some 111)
    ∷ flag (codes "wide") None
    ∷ file_rule
    ∷ []

-- The command that the words are read by: the parser's rules for a command with these arguments and no others of its own.
abbrev pub tecol_app : App
tecol_app = with_rules (program_app (codes "tecol")) tecol_rules

-- what is made where these flags are up: --reverse, --words, --check and --fix
abbrev pub mode_by : Bool → Bool → Bool → Bool → TecolMode
mode_by true words true false = CheckBytes
mode_by false words true false = CheckSource
mode_by true words true true = FixBytes
mode_by false words true true = FixSource
mode_by true words false fix = Listing
mode_by false true false fix = Again
mode_by false false false fix = Bytes

-- Whether --words, --check and --fix don't go together: a check has no words, and only a check is fixed.
abbrev pub go_apart : Bool → Bool → Bool → Bool
go_apart words check fix = check && words || fix && not check

-- By a parse the flag is up, or it is not.
abbrev pub IsFlag : List Row → Text → Bool → Type 0
IsFlag rows id up = IsTrue up ↔ (one_of id rows ≡ Some (codes "true"))

-- The line has what a parse gives for each argument; a name that isn't given is that of a standard stream.
pub record GivesLine (rows : List Row) (line : TecolLine) : Type 0 where
  pub reverse : Bool
  pub check : Bool
  pub fix : Bool
  pub reverse_is : IsFlag rows (codes "reverse") reverse
  pub words_is : IsFlag rows (codes "words") line.words
  pub check_is : IsFlag rows (codes "check") check
  pub fix_is : IsFlag rows (codes "fix") fix
  pub profile : IsProfile rows line.profile
  -- flags that don't go together are no line
  pub fits : go_apart line.words check fix ≡ false
  pub mode : line.mode ≡ mode_by reverse line.words check fix
  pub input : string_bytes line.input ≡ unwrap_or (first_of (codes "input") rows) (codes "-")
  pub output : string_bytes line.output ≡ unwrap_or (first_of (codes "output") rows) (codes "-")

-- The line is what these words say, the program's name first: the parser takes them, and the line has what their parse gives.
pub record SayLine (words : List Text) (line : TecolLine) : Type 0 where
  pub taken : fault_of tecol_app words ≡ []
  pub given : GivesLine (matches_of tecol_app words) line

-- By a parse flags are up that don't go together.
pub record SaysApart (rows : List Row) : Type 0 where
  pub words : Bool
  pub check : Bool
  pub fix : Bool
  pub words_is : IsFlag rows (codes "words") words
  pub check_is : IsFlag rows (codes "check") check
  pub fix_is : IsFlag rows (codes "fix") fix
  pub apart : go_apart words check fix ≡ true

-- Why a parse gives no line: memory was refused, or what it says doesn't go together.
abbrev pub GivesNoLine : List Row → LineFault → Type 0
GivesNoLine rows line_fault.NoMemory = ⊤
GivesNoLine rows (line_fault.Refused refusal) = SaysApart rows × (refusal.refused_as ≡ Faulty)

-- Why a line is refused, by the kind of an error of the parser: it wants memory; or these words have an error of that
-- kind, and it does not take them; or it takes them, but what they say doesn't go together.
abbrev pub IsTecolError : List Text → ErrorKind → Type 0
IsTecolError words error = (error ≡ kind.OutOfMemory)
    ⊎ (((takes tecol_app words ≡ false) × IsAmong error (fault_of tecol_app words))
    ⊎ ((fault_of tecol_app words ≡ [])
    × (SaysApart (matches_of tecol_app words) × (error ≡ kind.ArgumentConflict))))

-- A line is refused for such an error, and told as what that is.
pub record IsRefusedLine (words : List Text) (refusal : Refusal) : Type 0 where
  pub error : ErrorKind
  pub error_is : IsTecolError words error
  pub told : IsToldAs refusal.refused_as error

-- Why the words gave no line: memory was refused, or the line is.
abbrev pub SayNoLine : List Text → LineFault → Type 0
SayNoLine words line_fault.NoMemory = ⊤
SayNoLine words (line_fault.Refused refusal) = IsRefusedLine words refusal
