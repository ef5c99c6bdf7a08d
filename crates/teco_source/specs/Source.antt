-- What a source stands for, read byte by byte.
use Rattle.std.specs.Prelude.{ℕ, suc, ◌-◌, Bool, true, false, ◌&&◌, ◌||◌, List, [], ◌∷◌, ◌++◌, Option, Some, None, Result, Ok, Err, nat_le, ◌==◌, if◌then◌else◌, codes}
use Rattle.teco_source.specs.declared.reader.Mode.{Mode}
use Rattle.teco_source.specs.declared.reader.Mode.TheVariants.{First, Margin, Blank, Text, Hash, Mark, Caret, Comment, Wrong}
use Prim.Native.Char.{code}
use Rattle.teco_core.specs.declared.ascii.TheConstants.{ESC}

-- What has been read: where in a line the reader is, the bytes so far, and the blanks after them, which are bytes too if the line
-- goes on.
pub record State : Type 0 where
  pub mode : Mode
  pub bytes : List ℕ
  pub blanks : List ℕ

abbrev pub start : State
start = record { mode = First; bytes = []; blanks = [] }

-- A blank is SP, TAB or CR.
abbrev pub is_blank : ℕ → Bool
is_blank b = b == code " " || b == code "\t" || b == code "\r"

-- What a caret and a byte are: `^$` and `^!` a dollar and an exclamation mark, `^~` and `^=` a caret, a caret and a grave accent a
-- single quote, `^?` DEL, `^.` nothing, and a letter or one of `@[\]^_` a control byte, which is 64 below the capital. A caret stands
-- before no other byte.
abbrev pub marked : ℕ → Option (List ℕ)
marked b =
    if b == code "$" || b == code "!" then Some (b ∷ [])
    else (if b == code "~" || b == code "=" then Some (codes "^") else (if b == code "?" then Some (codes "\u{7f}")
    else (if b == code "`" then Some (codes "'") else (if b == code "." then Some []
    else (if nat_le (code "@") b && nat_le b (code "_") then Some ((b - 64) ∷ [])
    else (if nat_le (code "a") b && nat_le b (code "z") then Some ((b - 96) ∷ []) else None))))))

-- Any other byte is itself, but `$` is ESC.
abbrev pub meant : ℕ → ℕ
meant b = if b == code "$" then ESC else b

-- the last byte is a line end
unfoldable pub ends_line : List ℕ → Bool
ends_line [] = false
ends_line (b ∷ []) = b == code "\n"
ends_line (b ∷ c ∷ bs) = ends_line (c ∷ bs)

-- bytes more, with the blanks before them
abbrev pub put : List ℕ → State → State
put bs s = record { mode = Text; bytes = s.bytes ++ s.blanks ++ bs; blanks = [] }

-- A line of the source begins. Its blanks are layout, but where the text ends with a line end: a line of the text begins there,
-- and shows its own blanks.
abbrev pub line_begins : List ℕ → State
line_begins bytes = record { mode = if ends_line bytes then Blank else Margin; bytes = bytes; blanks = [] }

-- A line of the source ends, and the blanks before that are layout.
abbrev pub next_line : State → State
next_line s = line_begins s.bytes

abbrev pub blank_in : Mode → State → ℕ → State
blank_in First s b = record s { mode = Margin }
blank_in Margin s b = s
blank_in _ s b = record s { mode = Blank; blanks = s.blanks ++ b ∷ [] }

-- At the beginning of a line or after a blank an exclamation mark may begin a comment.
abbrev pub mark_in : Mode → State → State
mark_in Text s = put (codes "!") s
mark_in _ s = record s { mode = Mark }

abbrev pub plain : State → ℕ → State
plain s b =
    if b == code "\n" then next_line s
    else (if b == code "^" then record s { mode = Caret }
    else (if b == code "!" then mark_in s.mode s
    else (if is_blank b then blank_in s.mode s b else put (meant b ∷ []) s)))

abbrev pub put_marked : Option (List ℕ) → State → State
put_marked (Some bs) s = put bs s
put_marked None s = record s { mode = Wrong }

-- A byte after a mark, which begin a comment if the byte is an exclamation mark.
abbrev pub begins_comment : ℕ → State → ℕ → State
begins_comment c s b = if b == code "!" then record s { mode = Comment } else plain (put (c ∷ []) s) b

-- One byte more. `!!`, and `#!` at the beginning of the source, begin a comment, which goes to the end of the line.
abbrev pub step_in : Mode → State → ℕ → State
step_in First s b = if b == code "#" then record s { mode = Hash } else plain s b
step_in Hash s b = begins_comment (code "#") s b
step_in Mark s b = begins_comment (code "!") s b
step_in Caret s b = put_marked (marked b) s
step_in Comment s b = if b == code "\n" then next_line s else s
step_in Wrong s b = s
step_in _ s b = plain s b

unfoldable pub step : State → ℕ → State
step s b = step_in s.mode s b

unfoldable pub run : State → List ℕ → State
run s [] = s
run s (b ∷ bs) = run (step s b) bs

-- The end of a source, after so many bytes. A mark is itself there, and a caret cannot be read.
abbrev pub ended_in : Mode → State → ℕ → Result (List ℕ) ℕ
ended_in Hash s at = Ok (s.bytes ++ s.blanks ++ codes "#")
ended_in Mark s at = Ok (s.bytes ++ s.blanks ++ codes "!")
ended_in Caret s at = Err (at - 1)
ended_in Wrong s at = Err (at - 1)
ended_in _ s at = Ok s.bytes

abbrev pub ended : State → ℕ → Result (List ℕ) ℕ
ended s at = ended_in s.mode s at

abbrev pub is_wrong : Mode → Bool
is_wrong Wrong = true
is_wrong _ = false

-- The commands, or the place of the first caret that cannot be read: how many bytes are before it.
unfoldable pub commands_from : State → ℕ → List ℕ → Result (List ℕ) ℕ
commands_from s at [] = ended s at
commands_from s at (b ∷ bs) = if is_wrong (step s b).mode then Err (at - 1) else commands_from (step s b) (suc at) bs

-- the bytes that a source stands for
abbrev pub commands_of : List ℕ → Result (List ℕ) ℕ
commands_of source = commands_from start 0 source
