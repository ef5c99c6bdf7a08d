-- Why a file or a stream can't be read or written: by the kind of the system's error, and in words.
use Rattle.std.specs.Prelude.{◌≡◌, ◌≢◌, ℕ, List, ◌++◌, codes}
use Rattle.std.specs.IoError.{error_kind}
use Rattle.std.specs.declared.io.Error.{Error}
use Rattle.std.specs.declared.io.ErrorKind.{ErrorKind}
use Rattle.std.specs.declared.io.ErrorKind.TheVariants as kind
use Rattle.teco_fs.specs.declared.reason.Reason.{Reason}
use Rattle.teco_fs.specs.declared.reason.Reason.TheVariants.{Missing, Denied, IsFolder, InNoFolder, NoRoom, ReadOnly, Circle, LongName, InUse, TooLarge, Unread, Refused, ReadFailed, WriteFailed}

-- the reason of an error of this kind
abbrev pub reason_of : ErrorKind → Reason
reason_of kind.NotFound = Missing
reason_of kind.PermissionDenied = Denied
reason_of kind.IsADirectory = IsFolder
reason_of kind.NotADirectory = InNoFolder
reason_of kind.StorageFull = NoRoom
reason_of kind.QuotaExceeded = NoRoom
reason_of kind.ReadOnlyFilesystem = ReadOnly
reason_of kind.FilesystemLoop = Circle
reason_of kind.InvalidFilename = LongName
reason_of kind.ResourceBusy = InUse
reason_of kind.FileTooLarge = TooLarge
reason_of kind.BrokenPipe = Unread
reason_of _ = Refused

-- a reason in words
abbrev pub reason_words : Reason → List ℕ
reason_words Missing = codes "there is no such file or folder"
reason_words Denied = codes "permission is denied"
reason_words IsFolder = codes "it is a folder"
reason_words InNoFolder = codes "a part of its path is no folder"
reason_words NoRoom = codes "there is no room on the disk"
reason_words ReadOnly = codes "the file system is read only"
reason_words Circle = codes "its links lead in a circle"
reason_words LongName = codes "its name is too long"
reason_words InUse = codes "it is in use"
reason_words TooLarge = codes "it is too large"
reason_words Unread = codes "its reader has left"
reason_words Refused = codes "the system refused it"
reason_words ReadFailed = codes "a read failed"
reason_words WriteFailed = codes "a write failed"

-- what can't be done with a file, and why
abbrev pub with_reason : List ℕ → List ℕ → Reason → List ℕ
with_reason what name reason = what ++ name ++ codes ": " ++ reason_words reason

-- What an error of the system comes to: to this fate where it is want of memory, otherwise to the one that its reason makes.
pub record ComesTo {F : Type 0} (error : Error) (wanted : F) (by_reason : Reason → F) (fate : F) : Type 0 where
  pub memory : error_kind error ≡ kind.OutOfMemory → fate ≡ wanted
  pub other_is : error_kind error ≢ kind.OutOfMemory → fate ≡ by_reason (reason_of (error_kind error))
