-- Texts of the stream that are written out, and what each of them asks.
use Rattle.std.proofs.Common.{◌≡◌, refl, codes, [], ◌∷◌, true, false}
use Rattle.teco_core.specs.Number.{digits_value}
use Rattle.teco_scan.specs.Stream.{asks_history, requests, rest_of}
use Rattle.teco_scan.specs.Stream.Asks.{Run, Undo, Redo, Rewind}

-- A stream is cut at its leftmost pair, and what comes after the last pair is no text.
cuts :
    (requests (codes "1=\u{1b}\u{1b}\u{1b}2=\u{1b}\u{1b}Ia\u{1b}") ≡ Run (codes "1=\u{1b}") ∷ Run (codes "\u{1b}2=\u{1b}") ∷ [])
    × (requests (codes "\u{1b}\u{1b}\u{1b}\u{1b}") ≡ Run (codes "\u{1b}") ∷ Run (codes "\u{1b}") ∷ [])
    × (requests (codes "Ia\u{1b}") ≡ [])
cuts = (refl, refl, refl)

-- A brace is read with at most nine digits, and with fillers around them.
counts :
    (requests (codes "3{\u{1b}\u{1b}{\u{1b}\u{1b}0{\u{1b}\u{1b}") ≡ Undo 3 ∷ Undo 1 ∷ Undo 0 ∷ [])
    × (requests (codes " 12 }\u{1b}\u{1b}\r\n\012} \u{1b}\u{1b}}\u{1b}\u{1b}") ≡ Run (codes " 12 }\u{1b}") ∷ Redo 12 ∷ Redo 1 ∷ [])
    × (requests (codes "999999999{\u{1b}\u{1b}1234567890{\u{1b}\u{1b}") ≡ Undo 999999999 ∷ Run (codes "1234567890{\u{1b}") ∷ [])
    × (requests (codes "\u{1b}\u{1b}\u{1b}{\u{1b}\u{1b}{}\u{1b}\u{1b}") ≡ Run (codes "\u{1b}") ∷ Run (codes "\u{1b}{\u{1b}") ∷ Run (codes "{}\u{1b}") ∷ [])
unfolding digits_value
counts = (refl, refl, refl, refl)

-- A tilde asks one rewind, to step 0 without digits.
steps :
    (requests (codes "12~\u{1b}\u{1b} ~ \u{1b}\u{1b}0~\u{1b}\u{1b}") ≡ Rewind 12 ∷ Rewind 0 ∷ Rewind 0 ∷ [])
    × (requests (codes "999999999~\u{1b}\u{1b}1234567890~\u{1b}\u{1b}") ≡ Rewind 999999999 ∷ Run (codes "1234567890~\u{1b}") ∷ [])
    × (requests (codes "-1~\u{1b}\u{1b}~{\u{1b}\u{1b}") ≡ Run (codes "-1~\u{1b}") ∷ Run (codes "~{\u{1b}") ∷ [])
unfolding digits_value
steps = (refl, refl, refl)

-- What comes after the last pair, also where an ESC of it waits for the second one.
rests :
    (rest_of (codes "1=\u{1b}\u{1b}\u{1b}2=\u{1b}\u{1b}Ia\u{1b}") ≡ codes "Ia\u{1b}")
    × (rest_of (codes "\u{1b}\u{1b}\u{1b}\u{1b}\u{1b}") ≡ codes "\u{1b}")
    × (rest_of (codes "1=\u{1b}\u{1b}") ≡ [])
rests = (refl, refl, refl)

-- A stream asks a move where a text of it does. What comes after the last pair asks nothing.
moves :
    (asks_history (codes "1=\u{1b}\u{1b} {\n\u{1b}\u{1b}") ≡ true)
    × (asks_history (codes "{\u{1b}") ≡ false)
    × (asks_history (codes "I{\u{1b}\u{1b}1234567890{\u{1b}\u{1b}") ≡ false)
moves = (refl, refl, refl)
