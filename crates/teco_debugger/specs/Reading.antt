-- Files that are read: the command string, and the input.
use Rattle.std.specs.Prelude.{◌≡◌, ◌⊎◌, ℕ, List, [], ◌∷◌, ◌++◌, codes, length, map, slice_get, Option, Some, None, Ok, Err}
use Rattle.std.specs.String.{string_bytes}
use Rattle.std.specs.declared.alloc.Global.{Global}
use Rattle.std.specs.declared.io.Error.{Error}
use Rattle.std.specs.declared.string.String.{String}
use Rattle.teco_core.specs.declared.limits.TheConstants.{FILE_LIMIT}
use Rattle.teco_fs.specs.Disk.{Files, Opens}
use Rattle.teco_io.specs.Input.{IsFaultOf}
use Rattle.teco_io.specs.Source.{Gives}
use Rattle.teco_io.specs.declared.input.InputFault.{InputFault}
use Rattle.teco_io.specs.declared.input.InputFault.TheVariants as input
use Rattle.teco_fs.specs.Reading.{IsInput}
use Rattle.teco_fs.specs.Reasons.{ComesTo}
use Rattle.teco_fs.specs.declared.reason.Reason.TheVariants.{ReadFailed}
use Rattle.teco_fs.specs.Seen.{DiskSeen}
use Rattle.teco_messages.specs.Spot.{spot_of}
use Rattle.teco_messages.specs.declared.spot.Spot.{Spot}
use Rattle.teco_source.specs.Places.{places_of}
use Rattle.teco_source.specs.Source.{commands_of}
use Rattle.teco_debugger.specs.Spelling.{escaped}
use Rattle.teco_debugger.specs.declared.ending.Ending.{Ending}
use Rattle.teco_debugger.specs.declared.ending.Ending.TheVariants.{Caret, NoText, NoInput, NoMemory}
use Rattle.teco_debugger.specs.declared.reading.Given.{Given}
use Rattle.teco_debugger.specs.declared.sources.SourceText.{SourceText}
use Rattle.teco_debugger.specs.declared.reading.FileFault.{FileFault}
use Rattle.teco_debugger.specs.declared.reading.FileFault.TheVariants as file

-- why a file is not had that was opened, after a reading that ended by this fault
abbrev pub fault_after : InputFault → FileFault
fault_after input.Read = file.Unread ReadFailed
fault_after input.TooLarge = file.TooLarge
fault_after input.Memory = file.Memory

-- The file of this name is not had: the disk refused to open it, or what it opened was read, and that ended by a
-- fault.
abbrev pub IsNotRead : {I : Type 0} → Option Files → DiskSeen I → List ℕ → FileFault → Type 0
IsNotRead {I} files new name fault = ((error : Error) × new.gave error × ComesTo error file.Memory file.Unread fault)
    ⊎ ((first : I) × (last : I) × (read : InputFault) × Opens files name (new.input.coming first)
    × IsFaultOf FILE_LIMIT (Gives new.input.coming new.input.bound new.input.failures first last) read
    × (fault ≡ fault_after read))

-- The source has a caret at this spot that stands before what it cannot stand before.
abbrev pub HasFaultyCaret : List ℕ → Spot → Type 0
HasFaultyCaret source spot = (at : ℕ) × (commands_of source ≡ Err at) × (spot ≡ spot_of source at)

-- The source of this number has such a caret; or memory was refused.
abbrev pub IsUnreadable : ℕ → List ℕ → Ending → Type 0
IsUnreadable number source (Caret n spot) = (n ≡ number) × HasFaultyCaret source spot
IsUnreadable number source NoMemory = Unit {0}
IsUnreadable number source _ = ⊥

-- A source as it is shown, whose bytes of the string come after so many.
pub record IsShownFrom (name : List ℕ) (from : ℕ) (source : List ℕ) (shown : SourceText) : Type 0 where
  pub name_is : string_bytes shown.name ≡ name
  pub from_is : shown.from ≡ from
  pub text : shown.text.items ≡ map escaped source
  pub places : shown.places.items ≡ places_of source

-- The commands of a source come behind the others, and it is the last of the sources.
pub record AddsSource (name source : List ℕ) (old new : Given) : Type 0 where
  pub commands : List ℕ
  pub read : commands_of source ≡ Ok commands
  pub text : new.text.items ≡ old.text.items ++ commands
  pub shown : SourceText
  pub is_shown : IsShownFrom name (length old.text.items) source shown
  pub sources : new.sources.items ≡ old.sources.items ++ shown ∷ []

-- The same of the sources in the files of these names, one after another.
abbrev pub AddsFiles : Option Files → List (String Global) → Given → Given → Type 0
AddsFiles files [] old new = new ≡ old
AddsFiles files (name ∷ names) old new = (mid : Given) × (source : List ℕ) × IsInput files (string_bytes name) source
    × AddsSource (string_bytes name) source old mid × AddsFiles files names mid new

-- and of the source in a word, if there is one
abbrev pub AddsWord : Option (List ℕ) → Given → Given → Type 0
AddsWord None old new = new ≡ old
AddsWord (Some word) old new = AddsSource (codes "--execute") word old new

-- The string is that of the sources in files and in a word, from none on.
pub record IsOfSources (files : Option Files) (names : List (String Global)) (word : Option (List ℕ)) (given : Given) : Type 0 where
  pub none : Given
  pub text : none.text.items ≡ []
  pub sources : none.sources.items ≡ []
  pub mid : Given
  pub adds_files : AddsFiles files names none mid
  pub adds_word : AddsWord word mid given

-- It is what a file has, as it is.
abbrev pub IsOfBytes : Option Files → List ℕ → Given → Type 0
IsOfBytes files name given = IsInput files name given.text.items × (given.sources.items ≡ [])

-- The input is what the file has, or nothing where no file is named.
abbrev pub IsInputOf : Option Files → Option (String Global) → List ℕ → Type 0
IsInputOf files (Some name) input = IsInput files (string_bytes name) input
IsInputOf files None input = input ≡ []

-- The file of this number and name is not read.
abbrev pub LacksFile : {I : Type 0} → Option Files → DiskSeen I → ℕ → List ℕ → Ending → Type 0
LacksFile files new number name (NoText n fault) = (n ≡ number) × IsNotRead files new name fault
LacksFile files new number name _ = ⊥

-- Why the sources in some files are not had: that of this number is not read, or has a caret at this spot that stands before what it
-- cannot stand before; or memory was refused.
abbrev pub LacksEach : {I : Type 0} → Option Files → DiskSeen I → List (String Global) → Ending → Type 0
LacksEach files new names (NoText number fault) =
    (name : String Global) × (slice_get names number ≡ Some name) × IsNotRead files new (string_bytes name) fault
LacksEach files new names (Caret number spot) = (name : String Global) × (slice_get names number ≡ Some name)
    × ((source : List ℕ) × IsInput files (string_bytes name) source × HasFaultyCaret source spot)
LacksEach files new names NoMemory = Unit {0}
LacksEach files new names _ = ⊥

-- The same of a word, which has this number.
abbrev pub LacksWord : ℕ → Option (List ℕ) → Ending → Type 0
LacksWord number None ending = ⊥
LacksWord number (Some word) ending = IsUnreadable number word ending

-- and of sources in files and then in a word
abbrev pub LacksSources : {I : Type 0} → Option Files → DiskSeen I → List (String Global) → Option (List ℕ) → Ending → Type 0
LacksSources files new names word ending = LacksEach files new names ending ⊎ LacksWord (length names) word ending

-- Why the input of the line is not had.
abbrev pub InputIsMissing : {I : Type 0} → Option Files → DiskSeen I → Option (String Global) → Ending → Type 0
InputIsMissing files new input NoMemory = Unit {0}
InputIsMissing files new input (NoInput fault) = (name : String Global) × (input ≡ Some name) × IsNotRead files new (string_bytes name) fault
InputIsMissing files new input _ = ⊥
