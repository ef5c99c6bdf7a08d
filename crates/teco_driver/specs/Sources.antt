-- The commands of a line that are had at once, before any input is read: those of its sources, or the bytes of a file.
use Rattle.teco_io.specs.declared.source.Source.{Ghosts as SourceView}
use Rattle.std.specs.Prelude.{◌≡◌, ◌⊎◌, ◌<◌, ℕ, List, [], ◌∷◌, ◌++◌, length, take, map, codes, Option, Some, None, option_map, Bool, true, false, Ok, Err, ⊤}
use Rattle.std.specs.List.{slice_index_or}
use Rattle.std.specs.String.{string_bytes}
use Rattle.std.specs.declared.string.String.{String}
use Rattle.std.specs.declared.alloc.Global.{Global}
use Rattle.teco_fs.specs.Disk.{Files}
use Rattle.teco_cli.specs.CommandLine.{on_pages}
use Rattle.teco_cli.specs.StreamNames.{is_standard_input}
use Rattle.teco_cli.specs.declared.line.Commands.{Commands}
use Rattle.teco_cli.specs.declared.line.Commands.TheVariants.{StandardInput, Sources, Pages, Bytes}
use Rattle.teco_serve.specs.Ending.{said}
use Rattle.teco_fs.specs.Reasons.{with_reason}
use Rattle.teco_fs.specs.Refusing.{Tells}
use Rattle.teco_driver.specs.Run.{FailsToStream, LacksInput}
use Rattle.teco_fs.specs.Reading.{IsInput, IsStreamed}
use Rattle.teco_fs.specs.Seen.{DiskSeen}
use Rattle.teco_serve.specs.declared.fate.Fate.{Fate}
use Rattle.teco_serve.specs.declared.fate.Fate.TheVariants.{LargeInput, NoInput}
use Rattle.teco_driver.specs.Advice.{bytes_advice, has_escape}
use Rattle.teco_driver.specs.declared.sources.CommandsFault.{CommandsFault}
use Rattle.teco_driver.specs.declared.sources.CommandsFault.TheVariants.{Memory, Unread, TooLarge, Caret}
use Rattle.teco_driver.specs.declared.sources.WrongCaret.{WrongCaret}
use Rattle.teco_source.specs.Source.{commands_of}
use Rattle.teco_io.specs.Terminal.{Screen}
use Rattle.teco_messages.specs.Shown.{spot_shown}
use Rattle.teco_messages.specs.Spot.{spot_of}

-- The bytes are all that standard input has; or all that the file of this name has, where the files are told, and
-- standard input stays as it is.
abbrev pub IsWholeOf : {S : Type 0} → Bool → SourceView S → Option Files → List ℕ → S → S → List ℕ → Type 0
IsWholeOf true source files name old new bytes = IsStreamed source old new bytes
IsWholeOf false source files name old new bytes = IsInput files name bytes × (new ≡ old)

-- The bytes are the commands of the sources in the files of these names, one after another.
abbrev pub AreCommandsIn : {S : Type 0} → SourceView S → Option Files → List (String Global) → S → S → List ℕ → Type 0
AreCommandsIn source files [] old new bytes = (new ≡ old) × (bytes ≡ [])
AreCommandsIn {S} source files (name ∷ names) old new bytes = (mid : S) × (text : List ℕ) × (front : List ℕ) × (rest : List ℕ)
    × IsWholeOf (is_standard_input (string_bytes name)) source files (string_bytes name) old mid text
    × (commands_of text ≡ Ok front) × AreCommandsIn source files names mid new rest × (bytes ≡ front ++ rest)

-- the bytes are the commands of the source in a word, if there is one
abbrev pub AreCommandsOf : Option (List ℕ) → List ℕ → Type 0
AreCommandsOf None bytes = bytes ≡ []
AreCommandsOf (Some word) bytes = commands_of word ≡ Ok bytes

-- The bytes are the commands of the line: those of its files, and then those of its word.
abbrev pub IsGivenBy : {S : Type 0} → SourceView S → Commands → Option Files → S → S → List ℕ → Type 0
IsGivenBy source StandardInput files old new bytes = ⊥
IsGivenBy source (Sources names word) files old new bytes = (front : List ℕ) × (rest : List ℕ)
    × AreCommandsIn source files names.items old new front × AreCommandsOf (option_map string_bytes word) rest
    × (bytes ≡ front ++ rest)
IsGivenBy source (Pages word) files old new bytes = (strings : List ℕ) × (commands_of (string_bytes word) ≡ Ok strings)
    × (bytes ≡ on_pages strings) × (new ≡ old)
IsGivenBy source (Bytes name) files old new bytes =
    IsWholeOf (is_standard_input (string_bytes name)) source files (string_bytes name) old new bytes

-- The source has this caret, which stands before what it cannot stand before.
abbrev pub HasWrongCaret : List ℕ → WrongCaret → Type 0
HasWrongCaret text caret = (at : ℕ) × (commands_of text ≡ Err at) × (caret.spot ≡ spot_of text at)
    × (caret.has_escape ≡ has_escape text)

-- The sources in the files before this one are read, and this one has a wrong caret.
pub record IsFaultyFile {S : Type 0} (source : SourceView S) (files : Option Files) (names : List (String Global)) (at : ℕ) (caret : WrongCaret) (old new : S) : Type 0 where
  pub mid : S
  pub front : List ℕ
  pub before : AreCommandsIn source files (take at names) old mid front
  pub within : at < length names
  pub name : String Global
  pub name_is : name ≡ slice_index_or names at name
  pub text : List ℕ
  pub text_is : IsWholeOf (is_standard_input (string_bytes name)) source files (string_bytes name) mid new text
  pub wrong : HasWrongCaret text caret

-- The sources in all files are read, and the word has a wrong caret.
pub record IsFaultyWord {S : Type 0} (source : SourceView S) (files : Option Files) (names : List (String Global)) (word : Option (String Global)) (at : ℕ) (caret : WrongCaret) (old new : S) : Type 0 where
  pub front : List ℕ
  pub before : AreCommandsIn source files names old new front
  pub at_is : at ≡ length names
  pub text : List ℕ
  pub text_is : option_map string_bytes word ≡ Some text
  pub wrong : HasWrongCaret text caret

-- The source of this number can't be read, for this caret.
abbrev pub IsFaultyIn : {S : Type 0} → SourceView S → Commands → Option Files → ℕ → WrongCaret → S → S → Type 0
IsFaultyIn source StandardInput files at caret old new = ⊥
IsFaultyIn source (Sources names word) files at caret old new =
    IsFaultyFile source files names.items at caret old new ⊎ IsFaultyWord source files names.items word at caret old new
IsFaultyIn source (Pages word) files at caret old new = HasWrongCaret (string_bytes word) caret × (new ≡ old)
IsFaultyIn source (Bytes name) files at caret old new = ⊥

-- A run over standard input, or over the file of this name, would have this fate: it can't be read, or is too large. If it is a
-- file, standard input stays as it is.
abbrev pub FailsToGive : {S I : Type 0} → Bool → SourceView S → DiskSeen I → DiskSeen I → List ℕ → S → S → Fate → Type 0
FailsToGive true source before after name old new fate = FailsToStream source old new fate
FailsToGive false source before after name old new fate = LacksInput before after name fate × (new ≡ old)

-- The sources in the files before this one are read, and this one is not: a run over it would have this fate.
pub record IsUnreadFile {S I : Type 0} (source : SourceView S) (before after : DiskSeen I) (names : List (String Global)) (at : ℕ) (old new : S)
    (fate : Fate) : Type 0 where
  pub mid : S
  pub front : List ℕ
  pub read : AreCommandsIn source before.files (take at names) old mid front
  pub within : at < length names
  pub name : String Global
  pub name_is : name ≡ slice_index_or names at name
  pub fails : FailsToGive (is_standard_input (string_bytes name)) source before after (string_bytes name) mid new fate

-- The file of this number is not read: a run over it would have this fate.
abbrev pub IsUnreadIn : {S I : Type 0} → SourceView S → Commands → DiskSeen I → DiskSeen I → ℕ → S → S → Fate → Type 0
IsUnreadIn source StandardInput before after at old new fate = ⊥
IsUnreadIn source (Sources names word) before after at old new fate = IsUnreadFile source before after names.items at old new fate
IsUnreadIn source (Pages word) before after at old new fate = ⊥
IsUnreadIn source (Bytes name) before after at old new fate =
    (at ≡ 0) × FailsToGive (is_standard_input (string_bytes name)) source before after (string_bytes name) old new fate

-- Why the commands of a line are not had.
abbrev pub LacksCommands : {S I : Type 0} → SourceView S → Commands → DiskSeen I → DiskSeen I → S → S → CommandsFault → Type 0
LacksCommands source commands before after old new Memory = ⊤
LacksCommands source commands before after old new (Unread at reason) = IsUnreadIn source commands before after at old new (NoInput reason)
LacksCommands source commands before after old new (TooLarge at) = IsUnreadIn source commands before after at old new LargeInput
LacksCommands source commands before after old new (Caret at caret) = IsFaultyIn source commands before.files at caret old new

-- the same of its files alone
abbrev pub LacksFiles : {S I : Type 0} → SourceView S → List (String Global) → DiskSeen I → DiskSeen I → S → S → CommandsFault → Type 0
LacksFiles source names before after old new Memory = ⊤
LacksFiles source names before after old new (Unread at reason) = IsUnreadFile source before after names at old new (NoInput reason)
LacksFiles source names before after old new (TooLarge at) = IsUnreadFile source before after names at old new LargeInput
LacksFiles source names before after old new (Caret at caret) = IsFaultyFile source before.files names at caret old new

-- and of one source, of this number
abbrev pub IsFaultOf : List ℕ → ℕ → CommandsFault → Type 0
IsFaultOf text at Memory = ⊤
IsFaultOf text at (Unread n reason) = ⊥
IsFaultOf text at (TooLarge n) = ⊥
IsFaultOf text at (Caret n caret) = (n ≡ at) × HasWrongCaret text caret

-- and of one file, of this number and name
abbrev pub IsUnread : {S I : Type 0} → SourceView S → DiskSeen I → DiskSeen I → List ℕ → S → S → ℕ → CommandsFault → Type 0
IsUnread source before after name old new at Memory = ⊤
IsUnread source before after name old new at (Unread n reason) =
    (n ≡ at) × FailsToGive (is_standard_input name) source before after name old new (NoInput reason)
IsUnread source before after name old new at (TooLarge n) =
    (n ≡ at) × FailsToGive (is_standard_input name) source before after name old new LargeInput
IsUnread source before after name old new at (Caret n caret) = ⊥

-- what a source of a line is called: by its file's name, or by the option that gives it
abbrev pub source_name : Commands → ℕ → List ℕ
source_name StandardInput at = []
source_name (Sources names word) at = slice_index_or (map string_bytes names.items) at (codes "--execute")
source_name (Pages word) at = codes "--pages"
source_name (Bytes name) at = string_bytes name

-- the fault of a file of this number over which a run would have this fate
abbrev pub fault_by : ℕ → Fate → CommandsFault
fault_by at (NoInput reason) = Unread at reason
fault_by at LargeInput = TooLarge at
fault_by at _ = Memory

-- A source that has a wrong caret is a faulty line.
abbrev pub status_without : CommandsFault → ℕ
status_without Memory = 1
status_without (Unread at reason) = 1
status_without (TooLarge at) = 1
status_without (Caret at caret) = 3

-- what is told where the commands are not had
abbrev pub text_without : Commands → CommandsFault → List ℕ
text_without commands Memory = said (codes "no memory")
text_without commands (Unread at reason) = said (with_reason (codes "cannot read ") (source_name commands at) reason)
text_without commands (TooLarge at) = said (source_name commands at ++ codes " is too large")
text_without commands (Caret at caret) =
    said (source_name commands at ++ (codes ":" ++ spot_shown caret.spot ++ codes ": a caret before what it cannot stand before"
    ++ bytes_advice caret.has_escape))

-- The status is that of the fault, and its line is told on standard error; or that there is no memory for the line.
abbrev pub Declines : Commands → CommandsFault → Screen → Screen → ℕ → Type 0
Declines commands fault old new status = ((status ≡ status_without fault) × Tells old new (text_without commands fault))
    ⊎ ((status ≡ 1) × Tells old new (said (codes "no memory")))
