-- The old bytes of a file that is written over, which are kept under its name with a suffix after it, if the line has one.
use Rattle.std.specs.Prelude.{◌≡◌, ◌⊎◌, ◌++◌, ℕ, List, Option, Some, None, IsSome, Bool, true, not}
use Rattle.std.specs.declared.io.Error.{Error}
use Rattle.teco_cli.specs.Options.{suffix_of}
use Rattle.teco_cli.specs.declared.line.Line.{Line}
use Rattle.teco_fs.specs.Disk.{Changes, Files, Passes, SameBut}
use Rattle.teco_fs.specs.Reasons.{ComesTo}
use Rattle.teco_fs.specs.Seen.{DiskSeen}
use Rattle.teco_fs.specs.Writing.{AddsDrafts, IsKeeping, IsPut, IsWriteError, IsWriting, Keeps}
use Rattle.teco_serve.specs.declared.fate.Fate.{Fate}
use Rattle.teco_serve.specs.declared.fate.Fate.TheVariants.{NoBackup, NoMemory}

-- How an output takes the place of a file: what follows the file's name in the old file's, if that is kept; and whether the output outlasts
-- a crash before it takes the name.
pub record Replacing : Type 0 where
  pub suffix : Option (List ℕ)
  pub synced : Bool

abbrev pub replacing : Option (List ℕ) → Bool → Replacing
replacing suffix synced = record { suffix = suffix; synced = synced }

-- as the line says
abbrev pub replacing_of : Line → Replacing
replacing_of line = replacing (suffix_of line) (not line.no_sync)

-- Under the file's name with the suffix after it there is now what the file has. Without a suffix all is as it was.
abbrev pub KeptAs : List ℕ → Option (List ℕ) → Files → Files → Type 0
KeptAs file None before kept = kept ≡ before
KeptAs file (Some suffix) before kept = Keeps file (file ++ suffix) before kept

-- At a moment of that. Without a suffix there is none.
abbrev pub IsKeepingAs : List ℕ → Option (List ℕ) → Files → Files → Type 0
IsKeepingAs file None before now = ⊥
IsKeepingAs file (Some suffix) before now = IsKeeping file (file ++ suffix) before now

-- The old bytes of the file were kept first, and then the files changed so.
abbrev pub AfterKeeping : List ℕ → Option (List ℕ) → (Files → Files → Type 0) → Files → Files → Type 0
AfterKeeping file suffix change before after = (kept : Files) × KeptAs file suffix before kept × change kept after

-- At a moment of both: the old bytes are being kept; or they are kept, and the files are so related to those.
abbrev pub WhileKeeping : List ℕ → Option (List ℕ) → (Files → Files → Type 0) → Files → Files → Type 0
WhileKeeping file suffix moment before now = IsKeepingAs file suffix before now ⊎ AfterKeeping file suffix moment before now

-- The old bytes were kept, and no stream was given anything.
pub record KeepsOld {I : Type 0} (old new : DiskSeen I) (file : List ℕ) (suffix : Option (List ℕ)) : Type 0 where
  pub files : Changes old.files new.files (KeptAs file suffix)
  pub streams : new.streams ≡ old.streams
  pub moments : Passes old.files old.left new.left (IsKeepingAs file suffix)

-- The old bytes were to be kept and could not be, and the file is as it was. The fate is that of the error, and has its reason.
pub record FailsToKeep {I : Type 0} (old new : DiskSeen I) (file : List ℕ) (suffix : Option (List ℕ)) (fate : Fate) : Type 0 where
  pub asked : IsSome suffix
  pub files : Changes old.files new.files (AddsDrafts file)
  pub streams : new.streams ≡ old.streams
  pub moments : Passes old.files old.left new.left (IsKeepingAs file suffix)
  pub error : Error
  pub given : IsWriteError new.gave error
  pub fate_is : ComesTo error NoMemory NoBackup fate

-- The old bytes were kept. Then the output file has these bytes, and at each moment it was as before, or had them, if it was synced; or
-- the stream of this name was given them.
pub record WritesOver {I : Type 0} (old new : DiskSeen I) (name : List ℕ) (how : Replacing) (bytes : List ℕ) : Type 0 where
  pub files : Changes old.files new.files (AfterKeeping name how.suffix (IsPut name bytes (old.streams name) (new.streams name)))
  pub streams : SameBut name old.streams new.streams
  pub moments : how.synced ≡ true → Passes old.files old.left new.left (WhileKeeping name how.suffix (IsWriting name bytes))

-- The old bytes were kept. Then the output file is as it was; and at each moment it was so, or had these bytes, if it was synced.
pub record LeavesOver {I : Type 0} (old new : DiskSeen I) (name : List ℕ) (how : Replacing) (bytes : List ℕ) : Type 0 where
  pub files : Changes old.files new.files (AfterKeeping name how.suffix (AddsDrafts name))
  pub streams : SameBut name old.streams new.streams
  pub moments : how.synced ≡ true → Passes old.files old.left new.left (WhileKeeping name how.suffix (IsWriting name bytes))
