-- What the splitter cuts off the bytes that it holds.
use Rattle.std.specs.Prelude.{◌≡◌, ◌≤◌, ℕ, ◌+◌, List, [], ◌∷◌, ◌++◌, length, take, drop, Option, Some, None}
use Rattle.teco_core.specs.declared.ascii.TheConstants.{ESC}
use Rattle.teco_scan.specs.Stream.{Asks, texts_of, IsText, asks_of, requests}
use Rattle.teco_scan.specs.Stream.Asks.{Run, Undo, Redo, Rewind}
use Rattle.teco_serve.specs.declared.splitter.Asked.{Asked}
use Rattle.teco_serve.specs.declared.splitter.Asked.TheVariants as asked

abbrev pub value_of : Asked → Asks
value_of (asked.Run text) = Run text.items
value_of (asked.Undo n) = Undo n
value_of (asked.Redo n) = Redo n
value_of (asked.Rewind n) = Rewind n

-- From the held bytes the text up to the leftmost pair is cut, and the pair is gone; or none, and then no
-- pair is held.
abbrev pub Cuts : List ℕ → Option Asked → List ℕ → Type 0
Cuts old None new = (texts_of old ≡ []) × (new ≡ old)
Cuts old (Some asked) new = (text : List ℕ) × IsText text × (old ≡ text ++ ESC ∷ new)
    × (value_of asked ≡ asks_of text)

abbrev pub asked_first : Option Asked → List Asks
asked_first None = []
asked_first (Some asked) = value_of asked ∷ []

-- However the stream goes on, it asks what was cut off, and then what the bytes that are left ask.
abbrev pub AsksFirst : List ℕ → Option Asked → List ℕ → Type 0
AsksFirst old cut new = (more : List ℕ) → requests (old ++ more) ≡ asked_first cut ++ requests (new ++ more)

-- the bytes from `start` on are held, and no pair ends within the first `looked` of them
pub record IsHeld (bytes : List ℕ) (start looked : ℕ) : Type 0 where
  pub within : start + looked ≤ length bytes
  pub no_pair : texts_of (take looked (drop start bytes)) ≡ []
