-- The files of a disk in memory, told by a log of what each call made of them.
use Rattle.std.specs.Prelude.{◌≡◌, ◌⊎◌, List, [], ◌∷◌, ℕ, Option, None, if◌then◌else◌}
use Rattle.std.specs.Str.{bytes_eq}
use Rattle.teco_fs.specs.Disk.{Files}

-- What a call made of the files: under the one name there is none any more, and then under the other there
-- are these bytes, or none.
pub record FileNote : Type 0 where
  pub gone : List ℕ
  pub name : List ℕ
  pub bytes : Option (List ℕ)

-- What is under a name is told by the first note that speaks of it. The note of the last call is the first of
-- the log.
unfoldable pub files_of : List FileNote → Files
files_of [] name = None
files_of (note ∷ notes) name = if bytes_eq name note.name then note.bytes
    else (if bytes_eq name note.gone then None else files_of notes name)

-- The files were so after one of the calls, or before the first.
abbrev pub WereOnce : List FileNote → Files → Type 0
WereOnce [] files = files ≡ files_of []
WereOnce (note ∷ notes) files = (files ≡ files_of (note ∷ notes)) ⊎ WereOnce notes files

-- The log has one note more, or none.
abbrev pub GrowsByOne : List FileNote → List FileNote → Type 0
GrowsByOne old new = (new ≡ old) ⊎ ((note : FileNote) × (new ≡ note ∷ old))
