-- A disk at a moment, and what a call leaves of it as it was.
use Rattle.std.specs.Prelude.{◌≡◌, ℕ, List, Option, Result, IfErr}
use Rattle.std.specs.declared.io.Error.{Error}
use Rattle.teco_fs.specs.Disk.{Changes, Counts, Files, Passes}
use Rattle.teco_fs.specs.declared.unkept.Unkept.{Unkept}

-- a disk at a moment
pub record DiskState : Type 1 where
  -- the files, where the disk tells them
  pub files : Option Files
  -- what each device, pipe and socket has been given, where the disk tells its files
  pub streams : Files
  -- what a crash at some moment so far might have left
  pub left : Files → Type 0
  -- how often a call has failed, modulo 2^64
  pub failures : ℕ
  -- which errors its calls have given
  pub gave : Error → Type 0
  -- what is under this name outlasts a crash
  pub kept : List ℕ → Type 0
  -- a file of this name could not be removed
  pub unremoved : List ℕ → Type 0
  -- the file of this name isn't what it was when it was opened
  pub changed : List ℕ → Type 0
  -- this could not be kept of the file whose place the output that was written last takes; of a stream all is kept
  pub unkept : Option Unkept → Type 0

-- The files have changed so, where the disk tells them.
abbrev pub FilesChange : DiskState → DiskState → (Files → Files → Type 0) → Type 0
FilesChange old new change = Changes old.files new.files change

-- A crash might have left what it might have left before; or, at a moment of the call, what that moment is said to be.
abbrev pub FilesPass : DiskState → DiskState → (Files → Files → Type 0) → Type 0
FilesPass old new moment = Passes old.files old.left new.left moment

-- The call only looks: the files and the streams are as they were, and a crash leaves no more than before. If it fails, that is
-- counted, and its error is given.
pub record Looks {A : Type 0} (result : Result A Error) (old new : DiskState) : Type 0 where
  pub files : new.files ≡ old.files
  pub streams : new.streams ≡ old.streams
  pub moments : (files : Files) → new.left files → old.left files
  pub count : Counts result old.failures new.failures
  pub error : IfErr result new.gave

-- The call changes streams alone: the files are as they were, and a crash leaves no more than before. If it fails, that is counted,
-- and its error is given.
pub record KeepsFiles {A : Type 0} (result : Result A Error) (old new : DiskState) : Type 0 where
  pub files : new.files ≡ old.files
  pub moments : (files : Files) → new.left files → old.left files
  pub count : Counts result old.failures new.failures
  pub error : IfErr result new.gave

-- The call changes files alone: the streams are as they were. If it fails, that is counted, and its error is given.
pub record KeepsStreams {A : Type 0} (result : Result A Error) (old new : DiskState) : Type 0 where
  pub streams : new.streams ≡ old.streams
  pub count : Counts result old.failures new.failures
  pub error : IfErr result new.gave

-- The call only looks, and tells of no failure.
pub record LooksUntold (old new : DiskState) : Type 0 where
  pub files : new.files ≡ old.files
  pub streams : new.streams ≡ old.streams
  pub moments : (files : Files) → new.left files → old.left files
  pub count : new.failures ≡ old.failures
  pub errors : (error : Error) → old.gave error → new.gave error

-- The call changes files alone, and tells of no failure. What is known of a file that has changed stays known.
pub record KeepsStreamsUntold (old new : DiskState) : Type 0 where
  pub streams : new.streams ≡ old.streams
  pub count : new.failures ≡ old.failures
  pub changed : (file : List ℕ) → old.changed file → new.changed file
  pub errors : (error : Error) → old.gave error → new.gave error
