-- The suffix of --in-place as the parser reads it. It has no option whose value may be left out, so --in-place with a suffix is --backup.
use Rattle.std.specs.Prelude.{◌==◌, ◌++◌, List, [], ◌∷◌, drop, unwrap_or, codes, if◌then◌else◌, Option, Some, None}
use Rattle.std.specs.List.{starts_with}
use Rattle.std.specs.Str.{bytes_eq}
use Rattle.clap.specs.Words.{Text}

-- the option of the parser for a word that asks to keep the old file: --in-place=SUFFIX, or -i and a suffix that begins with a dot
abbrev pub backup_in : Text → Option Text
backup_in word = if starts_with (λ one other. one == other) word (codes "--in-place=") then Some (codes "--backup=" ++ drop 11 word)
    else if starts_with (λ one other. one == other) word (codes "-i.") then Some (codes "--backup=." ++ drop 3 word) else None

-- the words after the program's name; after -- no word is an option
unfoldable pub backups_after : List Text → List Text
backups_after [] = []
backups_after (word ∷ words) =
    if bytes_eq word (codes "--") then word ∷ words else unwrap_or (backup_in word) word ∷ backups_after words

abbrev pub with_backups : List Text → List Text
with_backups [] = []
with_backups (name ∷ words) = name ∷ backups_after words
