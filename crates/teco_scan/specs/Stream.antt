-- The stream of commands: the texts that end at pairs ESC ESC, what comes after the last pair, and what each text asks.
use Rattle.std.specs.Prelude.{◌≡◌, ℕ, ◌-◌, List, [], ◌∷◌, ◌++◌, length, take, drop, map, slice_index, Bool}
use Rattle.std.specs.Prelude.{true, false, not, ◌&&◌, ◌==◌, nat_le, if◌then◌else◌, Option, Some, None}
use Rattle.std.specs.List.{list_all, list_any, prefix_len, suffix_len}
use Rattle.teco_core.specs.Ascii.{is_digit, is_filler}
use Rattle.teco_core.specs.Number.{digits_value}
use Rattle.teco_core.specs.declared.ascii.TheConstants.{ESC}
use Rattle.teco_scan.specs.declared.stream.TheConstants.{UNDO, REDO, REWIND}
use Rattle.teco_scan.specs.declared.stream.HistoryMove.{HistoryMove}
use Rattle.teco_scan.specs.declared.stream.HistoryMove.TheVariants as moves

abbrev pub ends_in_escape : List ℕ → Bool
ends_in_escape [] = false
ends_in_escape (b ∷ []) = b == ESC
ends_in_escape (b ∷ c ∷ bs) = ends_in_escape (c ∷ bs)

-- A stream is cut at the leftmost pair ESC ESC, again and again. A text includes the first ESC of its pair;
-- `held` is what came since the pair before.
abbrev pub texts_from : List ℕ → List ℕ → List (List ℕ)
texts_from held [] = []
texts_from held (b ∷ bs) = if b == ESC && ends_in_escape held then held ∷ texts_from [] bs
    else texts_from (held ++ b ∷ []) bs

-- the texts of a stream; bytes after the last pair are unfinished and no text
abbrev pub texts_of : List ℕ → List (List ℕ)
texts_of bytes = texts_from [] bytes

-- those bytes, by the same cut
abbrev pub rest_from : List ℕ → List ℕ → List ℕ
rest_from held [] = held
rest_from held (b ∷ bs) = if b == ESC && ends_in_escape held then rest_from [] bs
    else rest_from (held ++ b ∷ []) bs

-- what comes after the last pair
abbrev pub rest_of : List ℕ → List ℕ
rest_of bytes = rest_from [] bytes

-- a text up to a pair, with the first ESC of it, and with no pair in it
pub record IsText (text : List ℕ) : Type 0 where
  pub ends : ends_in_escape text ≡ true
  pub no_pair : texts_of text ≡ []

-- what a text asks: to be run, so many undos or redos, or a rewind to a step
pub data Asks : Type 0 where
  Run : List ℕ → Asks
  Undo : ℕ → Asks
  Redo : ℕ → Asks
  Rewind : ℕ → Asks

abbrev pub is_run : Asks → Bool
is_run (Run text) = true
is_run (Undo n) = false
is_run (Redo n) = false
is_run (Rewind n) = false

abbrev pub without_fillers_before : List ℕ → List ℕ
without_fillers_before bs = drop (prefix_len is_filler bs) bs

abbrev pub without_fillers_after : List ℕ → List ℕ
without_fillers_after bs = take (length bs - suffix_len is_filler bs) bs

abbrev pub without_fillers : List ℕ → List ℕ
without_fillers bs = without_fillers_after (without_fillers_before bs)

-- how often: the number that the digits say, once without digits
abbrev pub times : List ℕ → ℕ
times [] = 1
times (d ∷ ds) = digits_value 0 (d ∷ ds)

-- { asks undos, } asks redos, and ~ a rewind to the step that the digits say, 0 without digits
abbrev pub asked_by : ℕ → List ℕ → Option HistoryMove
asked_by last digits =
    if last == UNDO then Some (moves.Undo (times digits)) else if last == REDO then Some (moves.Redo (times digits))
    else if last == REWIND then Some (moves.Rewind (digits_value 0 digits)) else None

-- at most 9 digits before it
abbrev pub history_asked_in : List ℕ → ℕ → Option HistoryMove
history_asked_in digits last = if nat_le (length digits) 9 && list_all is_digit digits
    then asked_by last digits else None

-- what the bytes ask, if they are one of the three after at most 9 digits and nothing else
abbrev pub history_asked : List ℕ → Option HistoryMove
history_asked bytes = let last = length bytes - 1 in
    history_asked_in (take last bytes) (slice_index bytes last)

-- The move that a text asks, without its ESC and without the fillers at either end.
abbrev pub move_asked : List ℕ → Option HistoryMove
move_asked text = history_asked (without_fillers (take (length text - 1) text))

-- A text that asks no move asks to be run, as it is.
abbrev pub asks_by : List ℕ → Option HistoryMove → Asks
asks_by text None = Run text
asks_by text (Some (moves.Undo n)) = Undo n
asks_by text (Some (moves.Redo n)) = Redo n
asks_by text (Some (moves.Rewind n)) = Rewind n

abbrev pub asks_of : List ℕ → Asks
asks_of text = asks_by text (move_asked text)

-- what a stream asks
abbrev pub requests : List ℕ → List Asks
requests bytes = map asks_of (texts_of bytes)

-- some text of the stream asks an undo, a redo or a rewind
abbrev pub asks_history : List ℕ → Bool
asks_history bytes = list_any (λ asks. not (is_run asks)) (requests bytes)
