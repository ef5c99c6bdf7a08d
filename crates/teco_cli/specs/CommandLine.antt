-- What the command line says: teco [OPTIONS] INPUT...
use Rattle.std.specs.Prelude.{Bool, ◌-◌, length, take, ◌++◌, IfSome, ◌≡◌, ◌≤◌, ◌==◌, ℕ, List, [], ◌∷◌, Option, Some, codes, true}
use Rattle.std.specs.Prelude.{false, ⊤, ◌⊎◌}
use Rattle.std.specs.List.{Any, suffix_len}
use Rattle.clap.specs.Words.{App, IsAmong, Row, Rule, Text, fault_of, matches_of}
use Rattle.clap.specs.Words.{new_rule, takes}
use Rattle.clap.specs.declared.builder.action.ArgAction.TheVariants.{Append, Set}
use Rattle.clap.specs.declared.error.kind.ErrorKind.{ErrorKind}
use Rattle.clap.specs.declared.error.kind.ErrorKind.TheVariants as kind
use Rattle.teco_core.specs.declared.ascii.TheConstants.{ESC}
use Rattle.teco_core.specs.declared.limits.TheConstants.{DEPTH_LIMIT}
use Rattle.teco_cli.specs.Assignments.{IsNoAssignment}
use Rattle.teco_cli.specs.Backups.{with_backups}
use Rattle.teco_cli.specs.Conflict.{has_conflict}
use Rattle.teco_cli.specs.Joining.{joined}
use Rattle.teco_cli.specs.Options.{AreMany, HasLine, SaysMany, SaysNoAssignment, option_rules, repeats_commands}
use Rattle.teco_cli.specs.OptionTable.{with_rules}
use Rattle.teco_cli.specs.Parsing.{program_app}
use Rattle.teco_cli.specs.Refusals.{IsFaulty, IsToldAs}
use Rattle.teco_cli.specs.declared.line.Line.{Line}
use Rattle.teco_cli.specs.declared.fault.LineFault.{LineFault}
use Rattle.teco_cli.specs.declared.fault.LineFault.TheVariants.{Refused, NoMemory}
use Rattle.teco_cli.specs.declared.refusal.Refusal.{Refusal}
use Rattle.teco_cli.specs.declared.refusal.RefusedAs.TheVariants.{Faulty}
use Prim.Native.Char.{code}

-- the steps that a string can be given
abbrev pub IsStepLimit : ℕ → Type 0
IsStepLimit steps = steps ≤ 1000000000000

-- a depth that a session can be asked for
abbrev pub IsDepth : ℕ → Type 0
IsDepth depth = (1 ≤ depth) × (depth ≤ DEPTH_LIMIT)

-- the line ends after which a page can be asked to end
abbrev pub IsPageLength : ℕ → Type 0
IsPageLength lines = (1 ≤ lines) × (lines ≤ 1000000000)

-- the seconds that a string can be given
abbrev pub IsTime : ℕ → Type 0
IsTime seconds = (1 ≤ seconds) × (seconds ≤ 1000000000000)

-- INPUT: any text, and it has to be there
abbrev pub input_rule : Rule
input_rule = record (new_rule (codes "input")) {
  value_names = 1;
  required = true;
  action = Some Set;
}

-- more of the same, before or between or after options
abbrev pub more_rule : Rule
more_rule = record (new_rule (codes "more")) { value_names = 1; action = Some Append }

-- the options, and then the inputs
abbrev pub teco_rules : List Rule
teco_rules = option_rules ++ input_rule ∷ more_rule ∷ []

-- The command that the words are read by: the parser's rules for a command with these arguments and no others
-- of its own.
abbrev pub teco_app : App
teco_app = with_rules (program_app (codes "teco")) teco_rules

abbrev pub is_escape : ℕ → Bool
is_escape byte = byte == ESC

-- the bytes before the ESCs at the end
abbrev pub without_last_escapes : List ℕ → List ℕ
without_last_escapes bytes = take (length bytes - suffix_len is_escape bytes) bytes

-- The commands that run these strings on every page, and then exit: a page is read and the strings are
-- run; -1-^N ends the loop where no page follows, and else P writes the page and reads the next. ^N is typed as
-- a caret and a letter. The strings may end with ESCs, as they would for --execute: one ESC takes their place,
-- since two would end the command string inside the loop. After it come a space and an ESC, which drops what the
-- last command gave.
abbrev pub on_pages : List ℕ → List ℕ
on_pages strings = codes "Y<" ++ without_last_escapes strings ++ (ESC ∷ code " " ∷ ESC ∷ codes "-1-^N;P>EX" ++ (ESC ∷ ESC ∷ []))

-- Why a line gives no commands: memory was refused, or it gives them more than once, and is faulty.
abbrev pub IsCommandsFault : Option Text → List Text → Option Text → Option Text → LineFault → Type 0
IsCommandsFault word files pages bytes NoMemory = ⊤
IsCommandsFault word files pages bytes (Refused refusal) = AreMany word files pages bytes × (refusal.refused_as ≡ Faulty)

-- The line has what the parse of these words gives.
pub record IsLineBy (words : List Text) (line : Line) : Type 0 where
  -- the parser takes the words
  pub taken : fault_of teco_app words ≡ []
  pub given : HasLine (matches_of teco_app words) line
  -- and what it says goes together
  pub fits : has_conflict line ≡ false

-- the words as the parser reads them: joined, and with --backup for a suffix of --in-place
abbrev pub as_read : List Text → List Text
as_read words = with_backups (joined words)

-- The line is what the words say, the program's name first.
abbrev pub IsLine : List Text → Line → Type 0
IsLine words = IsLineBy (as_read words)

-- What holds of each line that is taken: its numbers are in their ranges, and nothing in it conflicts.
pub record IsFit (line : Line) : Type 0 where
  pub limit : IfSome line.limit IsStepLimit
  pub depth : IfSome line.undo IsDepth
  pub seconds : IfSome line.seconds IsTime
  pub page_lines : IfSome line.page_lines IsPageLength
  pub fits : has_conflict line ≡ false

-- A parse says what no line says: commands more than once, a word of --assign that is no assignment, or a line with a conflict.
abbrev pub SaysConflict : List Row → Type 0
SaysConflict rows = SaysMany rows ⊎ ((repeats_commands rows ≡ true) ⊎ (SaysNoAssignment rows
    ⊎ ((line : Line) × HasLine rows line × (has_conflict line ≡ true))))

-- Why there is no line by a parse: memory was refused, or what it says is no line.
abbrev pub IsReadFault : List Row → LineFault → Type 0
IsReadFault rows NoMemory = ⊤
IsReadFault rows (Refused refusal) = SaysConflict rows × (refusal.refused_as ≡ Faulty)

-- Why a word of --assign, and why several of them, give no assignments: memory was refused, or one is none and the line is faulty.
abbrev pub IsWordFault : Text → LineFault → Type 0
IsWordFault word NoMemory = ⊤
IsWordFault word (Refused refusal) = IsNoAssignment word × (refusal.refused_as ≡ Faulty)

abbrev pub IsWordsFault : List Text → LineFault → Type 0
IsWordsFault words NoMemory = ⊤
IsWordsFault words (Refused refusal) = Any IsNoAssignment words × (refusal.refused_as ≡ Faulty)

-- Why a line is given up once it is read: the same, of the line.
abbrev pub IsMisfit : Line → LineFault → Type 0
IsMisfit line NoMemory = ⊤
IsMisfit line (Refused refusal) = (has_conflict line ≡ true) × (refusal.refused_as ≡ Faulty)

-- Why a line is refused, by the kind of an error of the parser: it wants memory; or these words have an error of that
-- kind, and it does not take them; or it takes them, but what they say is no line.
abbrev pub IsTecoError : List Text → ErrorKind → Type 0
IsTecoError words error = (error ≡ kind.OutOfMemory)
    ⊎ (((takes teco_app words ≡ false) × IsAmong error (fault_of teco_app words))
    ⊎ ((fault_of teco_app words ≡ [])
    × (SaysConflict (matches_of teco_app words) × (error ≡ kind.ArgumentConflict))))

-- A line is refused for such an error, and told as what that is.
pub record IsRefusal (words : List Text) (refusal : Refusal) : Type 0 where
  pub error : ErrorKind
  pub error_is : IsTecoError words error
  pub told : IsToldAs refusal.refused_as error

-- A line of the program is faulty, and its text says why; or memory was refused to tell it.
abbrev pub IsFaultSaid : Text → LineFault → Type 0
IsFaultSaid why NoMemory = ⊤
IsFaultSaid why (Refused refusal) = IsFaulty why (codes "teco [OPTIONS] <INPUT>...") refusal

-- Why the words gave no line: memory was refused, or the line is.
abbrev pub IsLineFault : List Text → LineFault → Type 0
IsLineFault words NoMemory = ⊤
IsLineFault words (Refused refusal) = IsRefusal (as_read words) refusal

-- The same once the words are joined and the command is made: memory is refused to the program itself only
-- where the parser takes the words, so a faulty line is never told as that.
abbrev pub IsFaultOnceMade : List Text → LineFault → Type 0
IsFaultOnceMade words NoMemory = fault_of teco_app words ≡ []
IsFaultOnceMade words (Refused refusal) = IsRefusal words refusal
