-- Files by their names, and how a call changes what they hold.
use Rattle.std.specs.Prelude.{◌≡◌, ◌≢◌, ◌⊎◌, ◌++◌, ℕ, List, [], length, take, Option, Some, None, Result, Ok, Err, true, false}
use Rattle.std.specs.String.{string_bytes}
use Rattle.teco_io.specs.Terminal.{IsFrontOf, count_after}
use Rattle.teco_fs.specs.declared.target.Target.{Target}
use Rattle.teco_fs.specs.declared.target.Target.TheVariants as target

-- what is under each name: the bytes of a file, or that there is none
abbrev pub Files : Type 0
Files = List ℕ → Option (List ℕ)

-- Under every name but these all is as it was.
abbrev pub SameBut : List ℕ → Files → Files → Type 0
SameBut but before after = (name : List ℕ) → name ≢ but → after name ≡ before name

abbrev pub Same : Files → Files → Type 0
Same before after = (name : List ℕ) → after name ≡ before name

-- There was no file of this name, and now it has these bytes.
pub record Creates (name bytes : List ℕ) (before after : Files) : Type 0 where
  pub new : before name ≡ None
  pub whole : after name ≡ Some bytes
  pub others : SameBut name before after

-- The file has these bytes after those that it had.
pub record Appends (name bytes : List ℕ) (before after : Files) : Type 0 where
  pub whole : (had : List ℕ) → before name ≡ Some had → after name ≡ Some (had ++ bytes)
  pub others : SameBut name before after

-- The file has these bytes, or a beginning of them, after those that it had.
abbrev pub AppendsFront : List ℕ → List ℕ → Files → Files → Type 0
AppendsFront name bytes before after = (front : List ℕ) × IsFrontOf front bytes × Appends name front before after

-- There was a file of this name, and all is as it was; or there was none, and now it has no bytes yet.
abbrev pub IsThere : List ℕ → Files → Files → Type 0
IsThere name before after = ((before name ≢ None) × Same before after) ⊎ Creates name [] before after

-- The file has no more than so many of the bytes that it had, from its beginning.
pub record CutsTo (name : List ℕ) (length : ℕ) (before after : Files) : Type 0 where
  pub whole : (had : List ℕ) → before name ≡ Some had → after name ≡ Some (take length had)
  pub others : SameBut name before after

-- There is no file of this name any more.
pub record Removes (name : List ℕ) (before after : Files) : Type 0 where
  pub gone : after name ≡ None
  pub others : SameBut name before after

-- Each file that was there is as it was. Under this name alone there may be one more.
pub record LeavesFiles (name : List ℕ) (before after : Files) : Type 0 where
  pub files : (other : List ℕ) → before other ≢ None → after other ≡ before other
  pub others : SameBut name before after

-- The file has another name, and what had that name before is gone.
pub record Renames (from to : List ℕ) (before after : Files) : Type 0 where
  pub moved : after to ≡ before from
  pub gone : after from ≡ None
  pub others : (name : List ℕ) → name ≢ from → name ≢ to → after name ≡ before name

-- The file has this other name too, and what had that name before is gone. Nothing else has changed.
pub record KeepsAs (file backup : List ℕ) (before after : Files) : Type 0 where
  pub kept : after backup ≡ before file
  pub others : SameBut backup before after

-- At a moment of that there is under the other name what was there before, or what the file has. Under the temporary name there may be
-- anything.
pub record IsKeepingBy (file temporary backup : List ℕ) (before now : Files) : Type 0 where
  pub backup_is : (now backup ≡ before backup) ⊎ (now backup ≡ before file)
  pub others : (name : List ℕ) → name ≢ backup → name ≢ temporary → now name ≡ before name

-- The file has these bytes, and nothing else has changed.
pub record Replaces (file bytes : List ℕ) (before after : Files) : Type 0 where
  pub whole : after file ≡ Some bytes
  pub others : SameBut file before after

-- The file is as it was, or has all of these bytes. Under the other name there may be anything.
pub record IsWhole (file draft bytes : List ℕ) (before now : Files) : Type 0 where
  pub file_is : (now file ≡ before file) ⊎ (now file ≡ Some bytes)
  pub others : (name : List ℕ) → name ≢ file → name ≢ draft → now name ≡ before name

-- Where the files were told before, they are told after, and have changed so.
abbrev pub Changes : Option Files → Option Files → (Files → Files → Type 0) → Type 0
Changes old new change = (before : Files) → old ≡ Some before
    → (after : Files) × (new ≡ Some after) × change before after

-- A crash might have left what it might have left before the call; or, at a moment of the call, what that
-- moment is said to be.
abbrev pub Passes : Option Files → (Files → Type 0) → (Files → Type 0) → (Files → Files → Type 0) → Type 0
Passes old left_old left_new moment = (before : Files) → old ≡ Some before
    → (files : Files) → left_new files → left_old files ⊎ moment before files

-- A count of failures rises by one if and only if the call failed.
abbrev pub Counts : {A E : Type 0} → Result A E → ℕ → ℕ → Type 0
Counts (Ok done) old new = new ≡ count_after false old
Counts (Err fault) old new = new ≡ count_after true old

-- What is still to come of a file that was opened is all that the file has, where the files are told.
abbrev pub Opens : Option Files → List ℕ → Option (List ℕ) → Type 0
Opens files name coming = (before : Files) → files ≡ Some before
    → (bytes : List ℕ) × (before name ≡ Some bytes) × (coming ≡ Some bytes)

-- Where the files are told, the file has not so many bytes, if it is there.
abbrev pub HasOtherSize : Option Files → List ℕ → ℕ → Type 0
HasOtherSize files name size = (before : Files) → files ≡ Some before → (bytes : List ℕ) → before name ≡ Some bytes
    → length bytes ≢ size

-- Where the files are told, this is the name of a stream.
abbrev pub IsStream : Option Files → Files → List ℕ → Type 0
IsStream files streams name = files ≢ None → (given : List ℕ) × (streams name ≡ Some given)

-- The target is the file of this name, which is no stream's; or it is a stream.
abbrev pub IsTargetOf : Files → List ℕ → Target → Type 0
IsTargetOf streams name (target.File to) = (string_bytes to ≡ name) × (streams name ≡ None)
IsTargetOf streams name target.Stream = (given : List ℕ) × (streams name ≡ Some given)
