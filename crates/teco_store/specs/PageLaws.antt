-- What pages come to: where they end, and that none of their bytes is lost.
use Rattle.std.specs.Prelude.{◌≡◌, ℕ, ◌+◌, ◌<◌, ◌≤◌, true, false, not, List, [], ◌∷◌, ◌++◌, length, drop, take_while, count_by, nat_lt, ◌==◌}
use Rattle.teco_core.specs.Ascii.{is_line_end}
use Rattle.teco_store.specs.State.{State}
use Rattle.teco_store.specs.Page.{page_of, page_span, is_ended, form_feed_if, left_of, written, with_next_page, finished}
use Rattle.teco_store.specs.declared.pages.TheConstants.{FORM_FEED}

-- Where no number of lines ends a page, it is all that comes before the first form feed, and is ended where one is left.
abbrev pub EndsAtFormFeedsAlone : Type 0
EndsAtFormFeedsAlone = (left : List ℕ) → (page_of 0 left ≡ take_while (λ b. not (b == FORM_FEED)) left)
    × (is_ended 0 left ≡ nat_lt (length (page_of 0 left)) (length left))

-- Else it is a front of that, and has no more line ends than the number.
abbrev pub HasAtMostItsLines : Type 0
HasAtMostItsLines = (lines : ℕ) (left : List ℕ) → 0 < lines → ((rest : List ℕ)
    × (page_of 0 left ≡ page_of lines left ++ rest))
    × (count_by is_line_end (page_of lines left) ≤ lines)

-- One that ends neither at a form feed nor at the end of the input ends at the line end of that number, which is its last byte.
abbrev pub EndsAtItsLastLine : Type 0
EndsAtItsLastLine = (lines : ℕ) (left : List ℕ) → is_ended lines left ≡ false
    → length (page_of lines left) < length left → (front : List ℕ) × (b : ℕ)
    × (page_of lines left ≡ front ++ b ∷ []) × (is_line_end b ≡ true)
    × (count_by is_line_end front + 1 ≡ lines)

-- A page, the form feed that ends it, and what comes after it are what was left.
abbrev pub PagesJoin : Type 0
PagesJoin = (lines : ℕ) (left : List ℕ) → page_of lines left ++ (form_feed_if (is_ended lines left) ++ drop
    (page_span lines left) left) ≡ left

-- the output, the page in the buffer, and the rest of the input
abbrev pub to_write : State → List ℕ
to_write s = s.output ++ (written s ++ left_of s)

-- A page that is turned loses no byte, and the exit writes them all.
abbrev pub TurningKeepsAll : Type 0
TurningKeepsAll = (s : State) → to_write (with_next_page s) ≡ to_write s

abbrev pub FinishingWritesAll : Type 0
FinishingWritesAll = (s : State) → (finished s).output ≡ to_write s
