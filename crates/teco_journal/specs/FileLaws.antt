-- What holds of the files of sessions.
use Rattle.std.specs.Prelude.{◌≡◌, ℕ, ◌<◌, ◌≤◌, true, ◌⊎◌, List, [], ◌∷◌, ◌++◌, length, take}
use Rattle.teco_source.specs.Laws.{is_one_line}
use Rattle.teco_journal.specs.declared.head_reader.HeadFault.TheVariants.{Torn}
use Rattle.teco_journal.specs.Events.{Event, HasRecord, HaveRecords}
use Rattle.teco_journal.specs.Lines.{words_of, line_of, check_after}
use Rattle.teco_journal.specs.Heads.{Beginning, HasHead, file_of, first_check, whole_head}
use Rattle.teco_journal.specs.HeadFaults.{HeadFails}
use Rattle.teco_journal.specs.Files.{Holds}

-- A head tells what the session begins with, whatever comes after it.
abbrev pub HeadsAreRead : Type 0
HeadsAreRead = (a b : Beginning) (x y : List ℕ) → HasHead a → HasHead b → whole_head a ++ x ≡ whole_head b ++ y → (a ≡ b) × (x ≡ y)

-- Where the writing of a head was cut off anywhere, that is told.
abbrev pub CutHeadsAreTorn : Type 0
CutHeadsAreTorn = (beginning : Beginning) (rest : List ℕ) (n : ℕ) → HasHead beginning → n < length (whole_head beginning)
    → HeadFails (take n (whole_head beginning ++ rest)) Torn

-- A file that was written is read, with a torn line after it or none.
abbrev pub FilesAreRead : Type 0
FilesAreRead = (beginning : Beginning) (torn : List ℕ) (es : List Event) → HasHead beginning → HaveRecords es → is_one_line torn ≡ true
    → Holds (file_of beginning es ++ torn) beginning es

-- Bytes hold one beginning and one list of events.
abbrev pub FilesHoldOnce : Type 0
FilesHoldOnce = (bytes : List ℕ) (a b : Beginning) (es fs : List Event) → Holds bytes a es → Holds bytes b fs → (a ≡ b) × (es ≡ fs)

-- Any front of a file that has its head holds the same beginning and a front of its events.
abbrev pub FrontsHoldFronts : Type 0
FrontsHoldFronts = (bytes : List ℕ) (n : ℕ) (a b : Beginning) (es fs : List Event) → Holds bytes a es → Holds (take n bytes) b fs
    → (a ≡ b) × (more : List Event) × (es ≡ fs ++ more)

-- A file without events is its head, and one event more is one line more.
abbrev pub FilesBegin : Type 0
FilesBegin = (beginning : Beginning) → file_of beginning [] ≡ whole_head beginning

abbrev pub FilesGrow : Type 0
FilesGrow = (beginning : Beginning) (es : List Event) (e : Event)
    → file_of beginning (es ++ e ∷ []) ≡ file_of beginning es ++ line_of (check_after (first_check beginning) es) (words_of e)

-- Where the writing of that line was cut off anywhere, the file holds all events before it, and it itself or nothing more.
abbrev pub CutFilesLoseOne : Type 0
CutFilesLoseOne = (a b : Beginning) (es fs : List Event) (e : Event) (n : ℕ) → HasHead a → HaveRecords es → HasRecord e
    → length (file_of a es) ≤ n → Holds (take n (file_of a (es ++ e ∷ []))) b fs → (a ≡ b) × ((fs ≡ es) ⊎ (fs ≡ es ++ e ∷ []))
