-- The folders of `$TECO_LIBRARY`, in which the files of `--file` are looked for.
use Rattle.std.specs.IoError.{error_kind}
use Rattle.std.specs.Prelude.{◌≡◌, ◌⊎◌, ◌||◌, ◌++◌, ℕ, List, [], ◌∷◌, Bool, true, false, Option, Some, codes, map}
use Rattle.std.specs.String.{string_bytes}
use Rattle.std.specs.declared.alloc.Global.{Global}
use Rattle.std.specs.declared.io.Error.{Error}
use Rattle.std.specs.declared.string.String.{String}
use Rattle.std.specs.declared.vec.Vec.{Vec}
use Rattle.teco_cli.specs.Conflict.{has_slash}
use Rattle.teco_cli.specs.StreamNames.{is_standard_input}
use Rattle.teco_cli.specs.declared.line.Commands.{Commands}
use Rattle.teco_cli.specs.declared.line.Commands.TheVariants.{StandardInput, Sources, Pages, Bytes}
use Rattle.teco_fs.specs.Disk.{Files}
use Rattle.teco_fs.specs.Reasons.{reason_of}
use Rattle.teco_fs.specs.Seen.{DiskSeen, KeepsDisk}
use Rattle.teco_fs.specs.declared.reason.Reason.{Reason}
use Rattle.teco_fs.specs.declared.reason.Reason.TheVariants.{Missing, InNoFolder}

-- a name with a slash says which file it is, and one of standard input names no file
abbrev pub stands : List ℕ → Bool
stands name = has_slash name || is_standard_input name

-- the name of a file in a folder
abbrev pub in_folder : List ℕ → List ℕ → List ℕ
in_folder name folder = folder ++ (codes "/" ++ name)

-- and in each of some folders
abbrev pub names_in : List (List ℕ) → List ℕ → List (List ℕ)
names_in folders name = map (in_folder name) folders

-- an error with such a reason says that there is no file
abbrev pub is_absence : Reason → Bool
is_absence Missing = true
is_absence InNoFolder = true
is_absence _ = false

-- Where the files are told, this is the name of a file or a stream.
abbrev pub IsNamed : Option Files → Files → List ℕ → Type 0
IsNamed files streams name = (told : Files) → files ≡ Some told
    → (bytes : List ℕ) × ((told name ≡ Some bytes) ⊎ (streams name ≡ Some bytes))

-- The disk was asked for this name, and nothing changed. There is such a file or stream; or the disk gave an error that does not say that
-- there is none.
pub record IsThere {D I : Type 0} (seen : D → DiskSeen I) (name : List ℕ) (old new : D) : Type 0 where
  pub kept : KeepsDisk (seen old) (seen new)
  pub answer : IsNamed (seen old).files (seen old).streams name
      ⊎ ((error : Error) × (seen new).gave error × (is_absence (reason_of (error_kind error)) ≡ false))

-- The disk was asked for this name, and nothing changed. It gave an error that says that there is no such file.
pub record IsAbsent {D I : Type 0} (seen : D → DiskSeen I) (old new : D) : Type 0 where
  pub kept : KeepsDisk (seen old) (seen new)
  pub error : Error
  pub gave : (seen new).gave error
  pub says_so : is_absence (reason_of (error_kind error)) ≡ true

-- A name of standard input is passed over, and so is one of no file.
abbrev pub IsPassed : {D I : Type 0} → (D → DiskSeen I) → List ℕ → D → D → Type 0
IsPassed seen name old new = ((is_standard_input name ≡ true) × (new ≡ old)) ⊎ IsAbsent seen old new

-- The file is the first of these names that is there. If none is, it has its own name.
abbrev pub IsFirst : {D I : Type 0} → (D → DiskSeen I) → List ℕ → List (List ℕ) → D → D → List ℕ → Type 0
IsFirst seen own [] old new file = (file ≡ own) × (new ≡ old)
IsFirst {D} seen own (name ∷ names) old new file =
    ((file ≡ name) × (is_standard_input name ≡ false) × IsThere seen name old new)
    ⊎ ((mid : D) × IsPassed seen name old mid × IsFirst seen own names mid new file)

-- A name that stands is that of the file. Any other is looked for as it is, and then in each folder in turn.
abbrev pub IsFoundIf : {D I : Type 0} → Bool → (D → DiskSeen I) → List (List ℕ) → List ℕ → D → D → List ℕ → Type 0
IsFoundIf true seen folders name old new file = (file ≡ name) × (new ≡ old)
IsFoundIf false seen folders name old new file = IsFirst seen name (name ∷ names_in folders name) old new file

abbrev pub IsFound : {D I : Type 0} → (D → DiskSeen I) → List (List ℕ) → List ℕ → D → D → List ℕ → Type 0
IsFound seen folders name old new file = IsFoundIf (stands name) seen folders name old new file

-- The same of several names, one after another.
abbrev pub AreFound : {D I : Type 0} → (D → DiskSeen I) → List (List ℕ) → List (String Global) → D → D → List (String Global) → Type 0
AreFound seen folders [] old new files = (files ≡ []) × (new ≡ old)
AreFound {D} seen folders (name ∷ names) old new files = (mid : D) × (file : String Global) × (rest : List (String Global))
    × IsFound seen folders (string_bytes name) old mid (string_bytes file) × AreFound seen folders names mid new rest
    × (files ≡ file ∷ rest)

-- These are the commands, with the names of the files that are found for those of `--file`. Without folders nothing is looked for.
abbrev pub FindsFiles : {D I : Type 0} → (D → DiskSeen I) → List (List ℕ) → Commands → D → D → Commands → Type 0
FindsFiles seen [] commands old new found = (found ≡ commands) × (new ≡ old)
FindsFiles seen folders StandardInput old new found = (found ≡ StandardInput) × (new ≡ old)
FindsFiles seen folders (Sources names word) old new found = (files : Vec (String Global) Global) × (found ≡ Sources files word)
    × AreFound seen folders names.items old new files.items
FindsFiles seen folders (Pages word) old new found = (found ≡ Pages word) × (new ≡ old)
FindsFiles seen folders (Bytes name) old new found = (found ≡ Bytes name) × (new ≡ old)
