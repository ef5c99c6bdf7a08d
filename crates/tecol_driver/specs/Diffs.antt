-- Unified diffs without context, of texts that have the same number of lines.
use Rattle.std.specs.Prelude.{ℕ, suc, ◌-◌, Bool, true, false, List, [], ◌∷◌, ◌++◌, codes, length, slice_index, ◌==◌, if◌then◌else◌}
use Rattle.std.specs.Fmt.{decimal}
use Rattle.std.specs.List.{list_any}
use Rattle.std.specs.Str.{bytes_eq}
use Prim.Native.Char.{code}

-- how many bytes the first line has, with its line end
unfoldable pub first_len : List ℕ → ℕ
first_len [] = 0
first_len (b ∷ bs) = if b == code "\n" then 1 else suc (first_len bs)

-- a byte more before the first line
abbrev pub longer : ℕ → List (List ℕ) → List (List ℕ)
longer b [] = (b ∷ []) ∷ []
longer b (line ∷ lines) = (b ∷ line) ∷ lines

-- the lines of a text, each with its line end, which the last may lack
unfoldable pub lines_of : List ℕ → List (List ℕ)
lines_of [] = []
lines_of (b ∷ bs) = if b == code "\n" then (b ∷ []) ∷ lines_of bs else longer b (lines_of bs)

-- the last byte is a line end
abbrev pub has_line_end : List ℕ → Bool
has_line_end line = slice_index line (length line - 1) == code "\n"

-- a line after a sign, and that it has no line end, if so
abbrev pub signed : ℕ → List ℕ → List ℕ
signed sign line = sign ∷ line ++ (if has_line_end line then [] else codes "\n\\ No newline at end of file\n")

-- the line that says which line is another one
abbrev pub hunk_head : ℕ → List ℕ
hunk_head number = codes "@@ -" ++ (decimal number ++ (codes ",1 +" ++ (decimal number ++ codes ",1 @@\n")))

-- that the line of this number is now another one
abbrev pub hunk : ℕ → List ℕ → List ℕ → List ℕ
hunk number old new = hunk_head number ++ signed (code "-") old ++ signed (code "+") new

abbrev pub hunk_if : Bool → ℕ → List ℕ → List ℕ → List ℕ
hunk_if true number old new = []
hunk_if false number old new = hunk number old new

-- what is said of the lines from this number on: of each that is another one
unfoldable pub hunks : ℕ → List (List ℕ) → List (List ℕ) → List ℕ
hunks number [] news = []
hunks number (old ∷ olds) [] = []
hunks number (old ∷ olds) (new ∷ news) = hunk_if (bytes_eq old new) number old new ++ hunks (suc number) olds news

-- what follows the name of a file, so that blanks in it don't end it
abbrev pub tab_after : List ℕ → List ℕ
tab_after name = if list_any (λ b. b == code " ") name then codes "\t" else []

-- the lines that say which file is another one
abbrev pub name_lines : List ℕ → List ℕ
name_lines name = codes "--- " ++ (name ++ (tab_after name ++ (codes "\n+++ " ++ (name ++ (tab_after name ++ codes "\n")))))

abbrev pub headed : List ℕ → List ℕ → List ℕ
headed name [] = []
headed name (b ∷ bs) = name_lines name ++ b ∷ bs

-- the diff of the old and the new text of a file of this name; nothing where no line is another one
abbrev pub diff_of : List ℕ → List ℕ → List ℕ → List ℕ
diff_of name old new = headed name (hunks 1 (lines_of old) (lines_of new))
