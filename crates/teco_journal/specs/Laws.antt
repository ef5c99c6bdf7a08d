-- What holds of events as lines.
use Rattle.std.specs.Prelude.{◌≡◌, ℕ, ◌≤◌, true, ◌⊎◌, List, [], ◌∷◌, ◌++◌, length, take}
use Rattle.teco_source.specs.Laws.{is_one_line}
use Rattle.teco_journal.specs.Events.{Event, HasRecord, HaveRecords}
use Rattle.teco_journal.specs.Lines.{written, check_after}
use Rattle.teco_journal.specs.Reading.{Tells, IsLine, IsChanged}

-- What was written is read, with a torn line after it or none.
abbrev pub WrittenIsRead : Type 0
WrittenIsRead = (last torn : List ℕ) (es : List Event) → HaveRecords es → is_one_line torn ≡ true
    → Tells last (written last es ++ torn) es

-- Bytes tell no other events than these.
abbrev pub BytesTellOnce : Type 0
BytesTellOnce = (last bytes : List ℕ) (es fs : List Event) → Tells last bytes es → Tells last bytes fs → es ≡ fs

-- Any front of any bytes tells a front of what they tell.
abbrev pub FrontsTellFronts : Type 0
FrontsTellFronts = (last bytes : List ℕ) (n : ℕ) (es fs : List Event) → Tells last bytes es
    → Tells last (take n bytes) fs → (more : List Event) × (es ≡ fs ++ more)

-- Where the writing of one event more was cut off anywhere, all events before it are read, and it itself or nothing more.
abbrev pub CrashesLoseOne : Type 0
CrashesLoseOne = (last : List ℕ) (es fs : List Event) (e : Event) (n : ℕ) → HaveRecords es → HasRecord e
    → length (written last es) ≤ n → Tells last (take n (written last (es ++ e ∷ []))) fs
    → (fs ≡ es) ⊎ (fs ≡ es ++ e ∷ [])

-- At a line whose check is not the one of its words behind the lines before it, the reading stops, whatever comes after.
abbrev pub ChangedLinesStop : Type 0
ChangedLinesStop = (last line rest : List ℕ) (es : List Event) → HaveRecords es → IsLine line
    → IsChanged (check_after last es) line → Tells last (written last es ++ (line ++ rest)) es
