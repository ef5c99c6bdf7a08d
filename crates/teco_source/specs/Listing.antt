-- How a text is written in a source.
use Rattle.std.specs.Prelude.{ℕ, ◌+◌, Bool, true, false, ◌&&◌, ◌||◌, List, [], ◌∷◌, ◌++◌, Option, Some, None, nat_lt, ◌==◌, if◌then◌else◌, map, replicate, codes}
use Rattle.teco_source.specs.declared.reader.Mode.{Mode}
use Rattle.teco_source.specs.declared.reader.Mode.TheVariants.{First, Margin, Blank, Text, Mark}
use Rattle.teco_source.specs.declared.writer.Note.{Note}
use Rattle.teco_source.specs.Source.{State, ends_line}
use Prim.Native.Char.{code}
use Rattle.teco_core.specs.declared.ascii.TheConstants.{ESC}

abbrev pub is_mark : Mode → Bool
is_mark Mark = true
is_mark _ = false

-- what a reader would take for layout, or for the beginning of a comment
abbrev pub is_guarded : Mode → ℕ → Bool
is_guarded First b = b == code " " || b == code "#"
is_guarded Margin b = b == code " "
is_guarded _ b = false

-- A byte, where a reader is in this mode: ESC is `$`, another control byte a caret and a letter, DEL `^?`, a dollar `^$`, a caret
-- `^~`, and the second of two exclamation marks that would begin a comment `^!`. Any other byte is itself, after `^.` where a
-- reader would not take it for that.
abbrev pub spelling : Mode → ℕ → List ℕ
spelling mode b =
    if b == ESC then codes "$"
    else (if nat_lt b (code " ") then code "^" ∷ (b + 64) ∷ []
    else (if b == code "$" then codes "^$"
    else (if b == code "^" then codes "^~"
    else (if b == code "\u{7f}" then codes "^?"
    else (if b == code "!" && is_mark mode then codes "^!"
    else (if is_guarded mode b then code "^" ∷ code "." ∷ b ∷ []
    else b ∷ []))))))

abbrev pub mode_at_mark : Mode → Mode
mode_at_mark Text = Text
mode_at_mark Mark = Text
mode_at_mark _ = Mark

-- where a reader is after that byte
abbrev pub mode_after : Mode → ℕ → Mode
mode_after mode b = if b == code " " then Blank else (if b == code "!" then mode_at_mark mode else Text)

-- `^.` keeps a blank at the end
abbrev pub spelled_end : Mode → List ℕ
spelled_end Blank = codes "^."
spelled_end _ = []

unfoldable pub spelled : Mode → List ℕ → List ℕ
spelled mode [] = spelled_end mode
spelled mode (b ∷ bs) = spelling mode b ++ spelled (mode_after mode b) bs

abbrev pub spaces : ℕ → List ℕ
spaces n = replicate n (code " ")

-- a margin, where a reader takes it for one
abbrev pub margin_of : Mode → ℕ → List ℕ
margin_of Margin n = spaces n
margin_of _ n = []

-- A note is a comment after spaces, on one line.
abbrev pub in_comment : ℕ → ℕ
in_comment b = if b == code "\n" then code " " else b

abbrev pub note_of : Option (ℕ × List ℕ) → List ℕ
note_of (Some note) = code " " ∷ (spaces note.0 ++ code "!" ∷ code "!" ∷ map in_comment note.1)
note_of None = []

-- A line of a source that says some bytes more of a text.
abbrev pub line_written : Mode → ℕ → List ℕ → Option (ℕ × List ℕ) → List ℕ
line_written mode n bytes note = margin_of mode n ++ spelled mode bytes ++ note_of note ++ codes "\n"

abbrev pub note_in : Option Note → Option (ℕ × List ℕ)
note_in (Some note) = Some (note.spaces, note.text.now)
note_in None = None

-- where a reader is before the next line, when it has read this text
abbrev pub line_mode : List ℕ → Mode
line_mode [] = First
line_mode (b ∷ bs) = if ends_line (b ∷ bs) then Blank else Margin

abbrev pub between : List ℕ → State
between text = record { mode = line_mode text; bytes = text; blanks = [] }
