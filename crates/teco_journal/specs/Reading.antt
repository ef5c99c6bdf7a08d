-- What bytes tell: the most events whose lines stand at their front.
use Rattle.std.specs.Prelude.{◌≡◌, ◌≢◌, ℕ, ◌<◌, true, List, [], ◌∷◌, ◌++◌, length}
use Rattle.teco_source.specs.Laws.{is_one_line}
use Rattle.teco_journal.specs.Events.{Event, HasRecord, HaveRecords}
use Rattle.teco_journal.specs.Lines.{words_of, line_of, written}
use Rattle.teco_journal.specs.declared.reader.Ending.{Ending}
use Rattle.teco_journal.specs.declared.reader.Ending.TheVariants.{Whole, Torn, Changed, Unknown}

-- These bytes stand at the front of those.
abbrev pub Begins : List ℕ → List ℕ → Type 0
Begins front bytes = (rest : List ℕ) × (bytes ≡ front ++ rest)

-- Behind the last check the bytes tell these events: their lines stand at the front, and those of no event more.
pub record Tells (last bytes : List ℕ) (es : List Event) : Type 0 where
  pub records : HaveRecords es
  pub front : Begins (written last es) bytes
  pub most : (e : Event) → HasRecord e → Begins (written last (es ++ e ∷ [])) bytes → ⊥

-- One line with its end.
abbrev pub IsLine : List ℕ → Type 0
IsLine line = (front : List ℕ) × (is_one_line front ≡ true) × (line ≡ front ++ 10 ∷ [])

-- It is no line of any words behind the last check.
abbrev pub IsChanged : List ℕ → List ℕ → Type 0
IsChanged last line = (words : List ℕ) → line ≢ line_of last words

-- It is the line of some words, which are those of no event.
abbrev pub IsUnknown : List ℕ → List ℕ → Type 0
IsUnknown last line = (words : List ℕ) × (line ≡ line_of last words)
    × ((e : Event) → HasRecord e → words ≢ words_of e)

-- Behind the last check a line stops the reading, for this reason.
abbrev pub Stops : List ℕ → List ℕ → Ending → Type 0
Stops last line Changed = IsChanged last line
Stops last line Unknown = IsUnknown last line
Stops last line _ = ⊥

-- why a reading ended behind the last check, before these bytes
abbrev pub EndsAs : List ℕ → List ℕ → Ending → Type 0
EndsAs last bytes Whole = bytes ≡ []
EndsAs last bytes Torn = (0 < length bytes) × (is_one_line bytes ≡ true)
EndsAs last bytes reason = (line : List ℕ) × IsLine line × Begins line bytes × Stops last line reason
