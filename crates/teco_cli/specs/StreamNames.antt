-- The names of the program's own streams, as a line gives them for files.
use Rattle.std.specs.Prelude.{Bool, ℕ, List, [], ◌∷◌, codes}
use Rattle.std.specs.List.{list_any}
use Rattle.std.specs.Str.{bytes_eq}

abbrev pub input_names : List (List ℕ)
input_names = codes "-" ∷ codes "/dev/stdin" ∷ codes "/dev/fd/0" ∷ codes "/proc/self/fd/0" ∷ []

abbrev pub output_names : List (List ℕ)
output_names = codes "-" ∷ codes "/dev/stdout" ∷ codes "/dev/fd/1" ∷ codes "/proc/self/fd/1" ∷ []

-- the file of this name is the program's own standard input
abbrev pub is_standard_input : List ℕ → Bool
is_standard_input name = list_any (bytes_eq name) input_names

-- the file of this name is the program's own standard output
abbrev pub is_standard_output : List ℕ → Bool
is_standard_output name = list_any (bytes_eq name) output_names
