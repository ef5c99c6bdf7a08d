-- The options of the program: the parser's rules for them, and what a line has of each.
use Rattle.std.specs.Prelude.{Bool, ◌||◌, nat_lt, length, map, unwrap_or, IfSome, ◌≡◌, ◌≤◌, List, [], ◌∷◌, Option, Some, None, IsTrue, ◌↔◌, codes, true}
use Rattle.std.specs.Prelude.{false, option_map, is_some, ◌⊎◌, if◌then◌else◌}
use Rattle.std.specs.List.{AllZip, Any, count_by, list_any}
use Rattle.std.specs.String.{string_bytes}
use Rattle.clap.specs.Words.{all_of, IsUnsignedIn, Row, Rule, Text, first_of, one_of}
use Rattle.teco_core.specs.declared.limits.TheConstants.{DEPTH_LIMIT}
use Rattle.teco_cli.specs.OptionTable.{flag, with_number, with_text, with_texts}
use Rattle.teco_cli.specs.Assignments.{IsAssignment, IsNoAssignment}
use Rattle.teco_cli.specs.Values.{IsProfile, number_of}
use Rattle.teco_cli.specs.declared.line.Commands.{Commands}
use Rattle.teco_cli.specs.declared.line.Commands.TheVariants.{StandardInput, Sources, Pages, Bytes}
use Rattle.teco_cli.specs.declared.line.Line.{Line}

-- the options, each with its letter if it has one
abbrev pub option_rules : List Rule
option_rules = with_texts (codes "execute") (Some 101)
    ∷ with_texts (codes "pages") (Some 112)
    ∷ with_texts (codes "file") (Some 102)
    ∷ with_texts (codes "bytes") (Some 98)
    ∷ with_texts (codes "assign") (Some 118)
    ∷ with_text (codes "output") (Some 111)
    ∷ flag (codes "in-place") (Some 105)
    ∷ with_text (codes "backup") None
    ∷ flag (codes "no-sync") None
    ∷ with_text (codes "session") None
    ∷ flag (codes "check") None
    ∷ with_number (codes "page-lines") None 1 1000000000
    ∷ with_number (codes "limit") None 0 1000000000000
    ∷ with_number (codes "seconds") None 1 1000000000000
    ∷ with_number (codes "undo") None 1 DEPTH_LIMIT
    ∷ flag (codes "prompt") None
    ∷ flag (codes "explain") None
    ∷ flag (codes "quiet") (Some 113)
    ∷ flag (codes "wide") None
    ∷ []

-- the texts that a parse gives for an option that may be given more than once
abbrev pub option_texts : Text → List Row → List Text
option_texts id rows = unwrap_or (all_of id rows) []

-- --execute or --file gives a source
abbrev pub has_sources : Option Text → List Text → Bool
has_sources word files = is_some word || nat_lt 0 (length files)

-- Where the commands come from, by the texts of --execute, --file, --pages and --bytes: from the sources of the
-- first two where they give any; else from the one that is given; from standard input where none is.
abbrev pub IsCommands : Option Text → List Text → Option Text → Option Text → Commands → Type 0
IsCommands word files pages bytes StandardInput = (has_sources word files ≡ false) × (pages ≡ None) × (bytes ≡ None)
IsCommands word files pages bytes (Sources names text) = (has_sources word files ≡ true)
    × (files ≡ map string_bytes names.items) × (word ≡ option_map string_bytes text) × (pages ≡ None) × (bytes ≡ None)
IsCommands word files pages bytes (Pages text) = (has_sources word files ≡ false)
    × (pages ≡ Some (string_bytes text)) × (bytes ≡ None)
IsCommands word files pages bytes (Bytes name) = (has_sources word files ≡ false)
    × (pages ≡ None) × (bytes ≡ Some (string_bytes name))

-- More than one of them is given: such a line is faulty.
abbrev pub AreMany : Option Text → List Text → Option Text → Option Text → Type 0
AreMany word files pages bytes = 2 ≤ count_by (λ given. given) (has_sources word files ∷ is_some pages ∷ is_some bytes ∷ [])

-- A parse says that the commands come from there, and that it gives them more than once.
abbrev pub SaysCommands : List Row → Commands → Type 0
SaysCommands rows = IsCommands (first_of (codes "execute") rows) (option_texts (codes "file") rows)
    (first_of (codes "pages") rows) (first_of (codes "bytes") rows)

abbrev pub SaysMany : List Row → Type 0
SaysMany rows = AreMany (first_of (codes "execute") rows) (option_texts (codes "file") rows)
    (first_of (codes "pages") rows) (first_of (codes "bytes") rows)

-- A parse gives one of these more than once: it is commands, of which none is dropped, so such a line is faulty.
abbrev pub repeats_commands : List Row → Bool
repeats_commands rows = list_any (λ id. nat_lt 1 (length (option_texts id rows))) (codes "execute" ∷ codes "pages" ∷ codes "bytes" ∷ [])

-- A word of --assign is no assignment: such a line is faulty too.
abbrev pub SaysNoAssignment : List Row → Type 0
SaysNoAssignment rows = Any IsNoAssignment (option_texts (codes "assign") rows)

-- A parse says that the output goes over the input: by the flag, or since the old file is to be kept.
abbrev pub IsInPlace : List Row → Type 0
IsInPlace rows = (one_of (codes "in-place") rows ≡ Some (codes "true")) ⊎ (is_some (first_of (codes "backup") rows) ≡ true)

-- what follows a file's name in the name under which its old bytes are kept, if the line keeps them
abbrev pub suffix_of : Line → Option Text
suffix_of line = if line.in_place then option_map string_bytes line.backup else None

-- The line has what a parse gives for each argument. `first_of` is an argument's value as text; `one_of` is
-- its text where it is read as a number or as a flag.
pub record HasLine (rows : List Row) (line : Line) : Type 0 where
  -- the input is there
  pub input : first_of (codes "input") rows ≡ Some (string_bytes line.input)
  -- the inputs after it
  pub more : option_texts (codes "more") rows ≡ map string_bytes line.more.items
  -- the output, if there is one
  pub output : first_of (codes "output") rows ≡ option_map string_bytes line.output
  -- where the commands come from, so that one place of them is given, or none; and none is given twice
  pub commands : SaysCommands rows line.commands
  pub once : repeats_commands rows ≡ false
  -- what is put into registers, word by word
  pub values : AllZip IsAssignment (option_texts (codes "assign") rows) line.values.items
  -- the limit of steps, if it is given
  pub limit : option_map number_of (one_of (codes "limit") rows) ≡ line.limit
  -- the seconds that a string may run, if they are given
  pub seconds : option_map number_of (one_of (codes "seconds") rows) ≡ line.seconds
  pub prompt : IsTrue line.prompt ↔ (one_of (codes "prompt") rows ≡ Some (codes "true"))
  -- the output goes over the input, and what follows its name in the old file's, if that is kept
  pub in_place : IsTrue line.in_place ↔ IsInPlace rows
  pub backup : first_of (codes "backup") rows ≡ option_map string_bytes line.backup
  pub no_sync : IsTrue line.no_sync ↔ (one_of (codes "no-sync") rows ≡ Some (codes "true"))
  -- the file that keeps the session, if one is given
  pub session : first_of (codes "session") rows ≡ option_map string_bytes line.session
  pub check : IsTrue line.check ↔ (one_of (codes "check") rows ≡ Some (codes "true"))
  pub explain : IsTrue line.explain ↔ (one_of (codes "explain") rows ≡ Some (codes "true"))
  pub quiet : IsTrue line.quiet ↔ (one_of (codes "quiet") rows ≡ Some (codes "true"))
  -- the language of the commands
  pub profile : IsProfile rows line.profile
  -- the depth of the history, if one is given
  pub undo : option_map number_of (one_of (codes "undo") rows) ≡ line.undo
  -- the line ends after which a page ends, if they are given
  pub page_lines : option_map number_of (one_of (codes "page-lines") rows) ≡ line.page_lines

-- what every parse gives
pub record IsGiven (rows : List Row) : Type 0 where
  pub input : is_some (first_of (codes "input") rows) ≡ true
  pub limit : IfSome (one_of (codes "limit") rows) (IsUnsignedIn 0 1000000000000)
  pub seconds : IfSome (one_of (codes "seconds") rows) (IsUnsignedIn 1 1000000000000)
  pub undo : IfSome (one_of (codes "undo") rows) (IsUnsignedIn 1 DEPTH_LIMIT)
  pub page_lines : IfSome (one_of (codes "page-lines") rows) (IsUnsignedIn 1 1000000000)
