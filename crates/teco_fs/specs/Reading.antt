-- What was read of a file, or of standard input, whole; and why a file was not.
use Rattle.teco_io.specs.declared.source.Source.{Ghosts as SourceView}
use Rattle.teco_io.specs.declared.input.InputFault.{InputFault}
use Rattle.teco_io.specs.declared.input.InputFault.TheVariants.{Read, TooLarge, Memory}
use Rattle.std.specs.IoError.{error_kind}
use Rattle.std.specs.Prelude.{◌≡◌, ◌⊎◌, ◌≤◌, ℕ, List, length, Option, Some, false}
use Rattle.std.specs.declared.io.Error.{Error}
use Rattle.std.specs.declared.io.ErrorKind.{ErrorKind}
use Rattle.std.specs.declared.io.ErrorKind.TheVariants.{FileTooLarge, Other, OutOfMemory}
use Rattle.teco_core.specs.declared.limits.TheConstants.{FILE_LIMIT}
use Rattle.teco_fs.specs.Disk.{Files, Opens}
use Rattle.teco_fs.specs.Seen.{DiskSeen}
use Rattle.teco_io.specs.Input.{IsFaultOf}
use Rattle.teco_io.specs.Source.{Gives, HasEnded}

-- The bytes are the input of this name: all that the file has, where the files are told, and no more than a
-- file may have.
pub record IsInput (files : Option Files) (name bytes : List ℕ) : Type 0 where
  pub small : length bytes ≤ FILE_LIMIT
  pub whole : (before : Files) → files ≡ Some before → before name ≡ Some bytes

-- The bytes are all that the source gave, to its end, and no more than a file may have.
pub record IsStreamed {S : Type 0} (source : SourceView S) (old new : S) (bytes : List ℕ) : Type 0 where
  pub small : length bytes ≤ FILE_LIMIT
  pub given : Gives source.coming source.bound source.failures old new bytes false
  pub ended : HasEnded (source.coming new) (source.ended new)

-- the kind of the error that a fault of a reading is told as
abbrev pub kind_of_fault : InputFault → ErrorKind
kind_of_fault Read = Other
kind_of_fault TooLarge = FileTooLarge
kind_of_fault Memory = OutOfMemory

-- What the disk opened under the name was read, and that ended by a fault, of which the error has the kind.
pub record EndsReading {I : Type 0} (input : SourceView I) (files : Option Files) (name : List ℕ) (error : Error) : Type 0 where
  pub first : I
  pub last : I
  pub fault : InputFault
  pub opened : Opens files name (input.coming first)
  pub fault_is : IsFaultOf FILE_LIMIT (Gives input.coming input.bound input.failures first last) fault
  pub kind_is : error_kind error ≡ kind_of_fault fault

-- The disk gave the error; or what it opened could not be read whole.
abbrev pub IsReadError : {I : Type 0} → DiskSeen I → DiskSeen I → List ℕ → Error → Type 0
IsReadError old new name error = new.gave error ⊎ EndsReading new.input old.files name error
