-- What the command line says: teco-debug [OPTIONS] [INPUT]
use Rattle.std.specs.Prelude.{◌≡◌, ◌⊎◌, ⊤, ℕ, Bool, ◌||◌, ◌&&◌, not, nat_lt, if◌then◌else◌, List, [], ◌∷◌, codes, is_some, length, map, min, Option, Some, None, option_map, true, false}
use Rattle.std.specs.declared.alloc.Global.{Global}
use Rattle.std.specs.declared.string.String.{String}
use Rattle.std.specs.declared.vec.Vec.{Vec}
use Rattle.std.specs.String.{string_bytes}
use Rattle.clap.specs.Words.{App, IsAmong, Row, Rule, Text, fault_of, first_of, matches_of, one_of, takes}
use Rattle.clap.specs.declared.error.kind.ErrorKind.{ErrorKind}
use Rattle.clap.specs.declared.error.kind.ErrorKind.TheVariants as kind
use Rattle.teco_cli.specs.Values.{IsNumber, IsProfile, number_of}
use Rattle.teco_cli.specs.Options.{option_texts}
use Rattle.teco_cli.specs.Parsing.{program_app}
use Rattle.teco_cli.specs.OptionTable.{flag, operand, with_number, with_rules, with_text, with_texts}
use Rattle.teco_cli.specs.Refusals.{IsFaulty, IsToldAs}
use Rattle.teco_cli.specs.declared.fault.LineFault.{LineFault}
use Rattle.teco_cli.specs.declared.fault.LineFault.TheVariants as line_fault
use Rattle.teco_cli.specs.declared.options.Takes.TheVariants.{MaybeOperand}
use Rattle.teco_core.specs.declared.profile.Profile.{Profile}
use Rattle.teco_core.specs.declared.profile.Profile.TheVariants.{Named, Wide}
use Rattle.teco_debugger.specs.declared.line.DebuggerLine.{DebuggerLine}
use Rattle.teco_debugger.specs.declared.line.Origin.{Origin}
use Rattle.teco_debugger.specs.declared.line.Origin.TheVariants.{Sources, Bytes, Session}
use Rattle.teco_debugger.specs.declared.arguments.Texts.{Texts}

-- the options, and the input
abbrev pub debug_rules : List Rule
debug_rules = with_text (codes "execute") (Some 101)
    ∷ with_texts (codes "file") (Some 102)
    ∷ with_text (codes "bytes") (Some 98)
    ∷ with_text (codes "session") None
    ∷ with_number (codes "string") None 1 1000000000000
    ∷ with_number (codes "limit") None 0 1000000000000
    ∷ flag (codes "wide") None
    ∷ operand MaybeOperand (codes "input")
    ∷ []

-- The command that the words are read by: the parser's rules for a command with these arguments and no others of its
-- own.
abbrev pub debug_app : App
debug_app = with_rules (program_app (codes "teco-debug")) debug_rules

-- The most steps: what the text says, which the parser takes if it is a number up to a million million; a million
-- without one.
abbrev pub IsLimit : Option Text → ℕ → Type 0
IsLimit (Some text) limit = IsNumber text → limit ≡ min (number_of text) 1000000000000
IsLimit None limit = limit ≡ 1000000

-- The number of a string of a session: what the text says, which the parser takes if it is a number from 1 on.
abbrev pub IsNumberIn : Option Text → Option ℕ → Type 0
IsNumberIn (Some text) number = IsNumber text → number ≡ Some (number_of text)
IsNumberIn None number = number ≡ None

-- A parse gives these texts.
pub record HasTexts (rows : List Row) (texts : Texts) : Type 0 where
  pub word : first_of (codes "execute") rows ≡ option_map string_bytes texts.word
  pub files : option_texts (codes "file") rows ≡ map string_bytes texts.files.items
  pub bytes : first_of (codes "bytes") rows ≡ option_map string_bytes texts.bytes
  pub session : first_of (codes "session") rows ≡ option_map string_bytes texts.session
  pub input : first_of (codes "input") rows ≡ option_map string_bytes texts.input

-- --execute or --file gives a source
abbrev pub gives_sources : Texts → Bool
gives_sources texts = is_some texts.word || nat_lt 0 (length texts.files.items)

-- --wide is given
abbrev pub says_wide : Profile → Bool
says_wide Named = false
says_wide Wide = true

-- Beside --session nothing else gives a string, an input or a language. Without it one thing gives a string, and no number of one is given.
-- Why a line is faulty by that, if it is.
abbrev pub fault_in : Profile → Texts → Option ℕ → Option Text
fault_in p texts number =
    if is_some texts.session then (if (gives_sources texts || is_some texts.bytes) || (is_some texts.input || says_wide p)
    then Some (codes "the argument '--session <FILE>' cannot be used with '--execute <STRINGS>', '--file <FILE>', '--bytes <FILE>', '--wide' or INPUT") else None)
    else (if gives_sources texts && is_some texts.bytes
    then Some (codes "the argument '--bytes <FILE>' cannot be used with '--file <FILE>' or '--execute <STRINGS>'")
    else (if not (gives_sources texts) && not (is_some texts.bytes)
    then Some (codes "one of '--execute <STRINGS>', '--file <FILE>', '--bytes <FILE>' and '--session <FILE>' is needed")
    else (if is_some number then Some (codes "the argument '--string <N>' needs '--session <FILE>'") else None)))

-- Where the command string comes from: from a string of a session, from the bytes of a file, or from sources.
abbrev pub origin_of : Option (String Global) → Option (String Global) → Vec (String Global) Global → Option (String Global) → Option ℕ → Origin
origin_of (Some name) bytes files word number = Session name number
origin_of None (Some name) files word number = Bytes name
origin_of None None files word number = Sources files word

-- The line has what a parse gives for each argument.
pub record LineHas (rows : List Row) (line : DebuggerLine) : Type 0 where
  pub texts : Texts
  pub texts_are : HasTexts rows texts
  pub number : Option ℕ
  pub number_is : IsNumberIn (one_of (codes "string") rows) number
  pub profile : IsProfile rows line.profile
  pub fits : fault_in line.profile texts number ≡ None
  pub limit : IsLimit (one_of (codes "limit") rows) line.limit
  pub origin : line.origin ≡ origin_of texts.session texts.bytes texts.files texts.word number
  pub input : line.input ≡ texts.input

-- The line is what these words say, the program's name first: the parser takes them, and the line has what their
-- parse gives.
pub record WordsSay (words : List Text) (line : DebuggerLine) : Type 0 where
  pub taken : fault_of debug_app words ≡ []
  pub given : LineHas (matches_of debug_app words) line

-- Why a line is refused, by the kind of an error of the parser: it wants memory; or these words have an error of that
-- kind, and it does not take them.
abbrev pub IsDebugError : List Text → ErrorKind → Type 0
IsDebugError words error = (error ≡ kind.OutOfMemory)
    ⊎ ((takes debug_app words ≡ false) × IsAmong error (fault_of debug_app words))

-- A line is faulty, and its text says why; or memory was refused to tell it.
abbrev pub IsToldFaulty : Text → LineFault → Type 0
IsToldFaulty why line_fault.NoMemory = ⊤
IsToldFaulty why (line_fault.Refused refusal) = IsFaulty why (codes "teco-debug [OPTIONS] [INPUT]") refusal

-- Such a line is faulty, and is told so.
abbrev pub IsMisgiven : Profile → Texts → Option ℕ → LineFault → Type 0
IsMisgiven p texts number fault = (why : Text) × (fault_in p texts number ≡ Some why) × IsToldFaulty why fault

-- The parse gives no line: memory was refused, or it is misgiven.
abbrev pub LacksLine : List Row → LineFault → Type 0
LacksLine rows line_fault.NoMemory = ⊤
LacksLine rows (line_fault.Refused refusal) = (p : Profile) × IsProfile rows p × (texts : Texts) × HasTexts rows texts
    × (number : Option ℕ) × IsNumberIn (one_of (codes "string") rows) number × IsMisgiven p texts number (line_fault.Refused refusal)

-- Why the words gave no line: memory was refused; or the parser refuses them for such an error, and that is told as what it is; or
-- the parser takes them, and they are misgiven.
abbrev pub WordsSayNone : List Text → LineFault → Type 0
WordsSayNone words line_fault.NoMemory = ⊤
WordsSayNone words (line_fault.Refused refusal) =
    ((error : ErrorKind) × IsDebugError words error × IsToldAs refusal.refused_as error)
    ⊎ ((fault_of debug_app words ≡ []) × LacksLine (matches_of debug_app words) (line_fault.Refused refusal))
