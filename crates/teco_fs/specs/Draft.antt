-- The name under which an output is written before it takes the file's name.
use Rattle.std.specs.Prelude.{ℕ, List, ◌++◌, if◌then◌else◌, codes}
use Rattle.std.specs.Str.{bytes_eq}
use Rattle.std.specs.Fmt.{decimal}
use Rattle.std.specs.Path.{path_with_file_name}

-- .teco- and a number
abbrev pub draft_file : ℕ → List ℕ
draft_file number = codes ".teco-" ++ decimal number

-- a name, or one with a - after it where it is another's
abbrev pub other_than : List ℕ → List ℕ → List ℕ
other_than file name = if bytes_eq name file then name ++ codes "-" else name

-- The draft is in the folder of the file, and is not the file.
abbrev pub draft_beside : List ℕ → ℕ → List ℕ
draft_beside file number = other_than file (path_with_file_name file (draft_file number))
