-- Writing the output: what it leaves of the files, and what it may fail by.
use Rattle.std.specs.Prelude.{◌≡◌, ◌≢◌, ◌⊎◌, ◌++◌, ⊤, ℕ, List, Option, Some, None, Result, Ok, Err}
use Rattle.std.specs.Borrow.{Bor}
use Rattle.std.specs.IoError.{error_kind}
use Rattle.std.specs.declared.io.Error.{Error}
use Rattle.std.specs.declared.io.ErrorKind.TheVariants.{AlreadyExists, OutOfMemory}
use Rattle.teco_fs.specs.Disk.{Changes, Files, Passes, Renames, Same, SameBut}
use Rattle.teco_fs.specs.declared.unkept.Unkept.{Unkept}
use Rattle.teco_fs.specs.Draft.{draft_beside}
use Rattle.teco_fs.specs.declared.output.Written.{Written}
use Rattle.teco_fs.specs.declared.output.Written.TheVariants.{Whole, Changed}
use Rattle.teco_fs.specs.Seen.{DiskSeen}
use Rattle.teco_fs.specs.State.{DiskState}

-- The name is that of a draft of the file.
abbrev pub IsDraftOf : List ℕ → List ℕ → Type 0
IsDraftOf file name = (number : ℕ) × (name ≡ draft_beside file number)

-- A draft of the file has all of these bytes.
abbrev pub HasDraft : List ℕ → List ℕ → Files → Files → Type 0
HasDraft file bytes before now = (draft : List ℕ) × IsDraftOf file draft × (now draft ≡ Some bytes)

-- At a moment while a draft takes the file's name, or is removed.
abbrev pub IsTaking : List ℕ → List ℕ → Files → Files → Type 0
IsTaking draft file before now = Renames draft file before now ⊎ SameBut draft before now

-- what holds if all of an output was written
abbrev pub IfWhole : Result Written Error → Type 0 → Type 0
IfWhole (Ok (Whole unkept)) fact = fact
IfWhole (Ok Changed) fact = ⊤
IfWhole (Err error) fact = ⊤

-- what holds of what could not be kept, if all of an output was written
abbrev pub IfWholeWith : Result Written Error → (Option Unkept → Type 0) → Type 0
IfWholeWith (Ok (Whole unkept)) fact = fact unkept
IfWholeWith (Ok Changed) fact = ⊤
IfWholeWith (Err error) fact = ⊤

-- what holds if nothing was written, since the file has changed
abbrev pub IfChanged : Result Written Error → Type 0 → Type 0
IfChanged (Ok (Whole unkept)) fact = ⊤
IfChanged (Ok Changed) fact = fact
IfChanged (Err error) fact = ⊤

-- what holds if not all was written: the file has changed, or a call failed
abbrev pub UnlessWhole : Result Written Error → Type 0 → Type 0
UnlessWhole (Ok (Whole unkept)) fact = ⊤
UnlessWhole (Ok Changed) fact = fact
UnlessWhole (Err error) fact = fact

-- The file that was read, if one was, isn't what it was then.
abbrev pub HasChanged : DiskState → Option (Bor (List ℕ)) → Type 0
HasChanged disk None = ⊥
HasChanged disk (Some read) = disk.changed read.now

-- Each file that was there is as it was, and the file too if it was not there. There may be drafts more.
pub record AddsDrafts (file : List ℕ) (before after : Files) : Type 0 where
  pub same : after file ≡ before file
  pub files : (other : List ℕ) → before other ≢ None → after other ≡ before other
  pub others : (other : List ℕ) → (IsDraftOf file other → ⊥) → after other ≡ before other

-- The file has these bytes. Each other file that was there is as it was. There may be drafts more.
pub record Writes (file bytes : List ℕ) (before after : Files) : Type 0 where
  pub whole : after file ≡ Some bytes
  pub files : (other : List ℕ) → other ≢ file → before other ≢ None → after other ≡ before other
  pub others : (other : List ℕ) → other ≢ file → (IsDraftOf file other → ⊥) → after other ≡ before other

-- The output is put under this name: in the file, which has it whole; or after what the stream of this name was
-- given before, and then each file is as it was.
abbrev pub IsPut : List ℕ → List ℕ → Option (List ℕ) → Option (List ℕ) → Files → Files → Type 0
IsPut name output None given before after = Writes name output before after
IsPut name output (Some had) given before after = (given ≡ Some (had ++ output)) × Same before after

-- At a moment of the writing the file is as it was, or has all of these bytes. Under the names of drafts
-- there may be anything.
pub record IsWriting (file bytes : List ℕ) (before now : Files) : Type 0 where
  pub file_is : (now file ≡ before file) ⊎ (now file ≡ Some bytes)
  pub others : (other : List ℕ) → other ≢ file → (IsDraftOf file other → ⊥) → now other ≡ before other

-- Under the other name there is what the file has. Each other file that was there is as it was. There may be drafts more.
pub record Keeps (file backup : List ℕ) (before after : Files) : Type 0 where
  pub kept : after backup ≡ before file
  pub files : (other : List ℕ) → other ≢ backup → before other ≢ None → after other ≡ before other
  pub others : (other : List ℕ) → other ≢ backup → (IsDraftOf file other → ⊥) → after other ≡ before other

-- At a moment of that there is under the other name what was there before, or what the file has. Under the names of drafts there may be
-- anything.
pub record IsKeeping (file backup : List ℕ) (before now : Files) : Type 0 where
  pub backup_is : (IsDraftOf file backup → ⊥) → (now backup ≡ before backup) ⊎ (now backup ≡ before file)
  pub others : (other : List ℕ) → other ≢ backup → (IsDraftOf file other → ⊥) → now other ≡ before other

-- The disk gave the error; or memory was refused for the name of a draft; or each name that was tried is
-- another's.
abbrev pub IsWriteError : (Error → Type 0) → Error → Type 0
IsWriteError gave error = gave error ⊎ ((error_kind error ≡ OutOfMemory) ⊎ (error_kind error ≡ AlreadyExists))

-- The output file has these bytes, and at each moment it was as before, or had them; or the stream of this name
-- was given them.
pub record WritesOutput {I : Type 0} (old new : DiskSeen I) (name bytes : List ℕ) : Type 0 where
  pub files : Changes old.files new.files (IsPut name bytes (old.streams name) (new.streams name))
  pub streams : SameBut name old.streams new.streams
  pub moments : Passes old.files old.left new.left (IsWriting name bytes)
