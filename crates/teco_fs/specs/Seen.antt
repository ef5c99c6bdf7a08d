-- What is seen of what a run changes: its disk, its standard input and its terminal.
use Rattle.std.specs.Prelude.{◌≡◌, ℕ, List, Option, false}
use Rattle.std.specs.declared.io.Error.{Error}
use Rattle.teco_io.specs.declared.source.Source.{Ghosts as SourceView}
use Rattle.teco_fs.specs.Disk.{Changes, Files}
use Rattle.teco_fs.specs.State.{DiskState}
use Rattle.teco_fs.specs.declared.disk.Disk.{Ghosts as DiskView}
use Rattle.teco_fs.specs.declared.unkept.Unkept.{Unkept}
use Rattle.teco_cli.specs.StreamNames.{is_standard_input}

-- A disk was asked whether the file of this name is what it was when it was opened, and said so. Then its files were related so to those
-- from before.
pub record IsAsked {D : Type 0} (seen : D → DiskState) (name : List ℕ) (before : Option Files) (change : Files → Files → Type 0)
    : Type 0 where
  pub disk : D
  pub then : Changes before (seen disk).files change
  pub as_read : (seen disk).changed name → ⊥

-- what is seen of a disk at a moment; `I` is what its files are read from
pub record DiskSeen (I : Type 0) : Type 1 where
  -- the files, where the disk tells them
  pub files : Option Files
  -- what each device, pipe and socket has been given, where the files are told
  pub streams : Files
  -- what a crash at some moment so far might have left
  pub left : Files → Type 0
  -- which errors its calls have given
  pub gave : Error → Type 0
  -- the file of this name isn't what it was when it was opened
  pub changed : List ℕ → Type 0
  -- this could not be kept of the file whose place the output that was written last takes
  pub unkept : Option Unkept → Type 0
  -- with files that are related so to those from before, it was asked and said that the file of this name is what it was
  pub asked : List ℕ → Option Files → (Files → Files → Type 0) → Type 0
  -- how a file that it has opened is seen
  pub input : SourceView I

abbrev pub disk_seen : {D I R : Type 0} → DiskView D I R → SourceView I → D → DiskSeen I
disk_seen view input disk = record {
  files = (view.seen disk).files;
  streams = (view.seen disk).streams;
  left = (view.seen disk).left;
  gave = (view.seen disk).gave;
  changed = (view.seen disk).changed;
  unkept = (view.seen disk).unkept;
  asked = IsAsked view.seen;
  input = input;
}

-- The files and the streams are as they were, and a crash leaves no more than before.
pub record KeepsDisk {I : Type 0} (old new : DiskSeen I) : Type 0 where
  pub files : new.files ≡ old.files
  pub streams : new.streams ≡ old.streams
  pub moments : (files : Files) → new.left files → old.left files

-- what a run changes: its disk, its standard input and its terminal, at a moment
pub record Host (D S T : Type 0) : Type 0 where
  pub disk : D
  pub stream : S
  pub term : T

abbrev pub host : {D S T : Type 0} → D → S → T → Host D S T
host disk stream term = record { disk = disk; stream = stream; term = term }

-- What comes on standard input stays as it is, unless the input comes from there.
abbrev pub KeepsStream : {S : Type 0} → List ℕ → S → S → Type 0
KeepsStream input old new = is_standard_input input ≡ false → new ≡ old
