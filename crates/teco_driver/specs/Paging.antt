-- How many lines the pages of an input have at most.
use Rattle.std.specs.Prelude.{◌≡◌, ℕ, ◌+◌, ◌/◌, ◌<◌, ◌≤◌, max, Bool, IsTrue, true, false, ◌&&◌, ◌==◌, nat_lt, List, [], ◌∷◌, length, drop, Some, None, if◌then◌else◌}
use Rattle.teco_core.specs.Ascii.{is_line_end}
use Rattle.teco_core.specs.declared.limits.TheConstants.{TEXT_LIMIT}
use Rattle.teco_store.specs.Page.{page_of}
use Rattle.teco_cli.specs.declared.line.Commands.{Commands}
use Rattle.teco_cli.specs.declared.line.Commands.TheVariants.{StandardInput, Sources, Pages, Bytes}
use Rattle.teco_cli.specs.declared.line.Line.{Line}
use Rattle.teco_driver.specs.declared.paging.TheConstants.{FORM_FEED, PAGE_BYTES}

-- Some bytes divide a text into parts. The length of its longest part, if so many bytes of the first part came before.
unfoldable pub longest_part : (ℕ → Bool) → ℕ → List ℕ → ℕ
longest_part divides before [] = before
longest_part divides before (b ∷ bs) =
    if divides b then max before (longest_part divides 0 bs) else longest_part divides (before + 1) bs

abbrev pub is_form_feed : ℕ → Bool
is_form_feed b = b == FORM_FEED

-- form feeds divide an input into pages, and line ends into lines
abbrev pub longest_page : List ℕ → ℕ
longest_page input = longest_part is_form_feed 0 input

abbrev pub longest_line : List ℕ → ℕ
longest_line input = longest_part is_line_end 0 input

-- so many of its longest line, with its end, have some `PAGE_BYTES`; at least one
abbrev pub lines_within : List ℕ → ℕ
lines_within input = max 1 (PAGE_BYTES / (longest_line input + 1))

abbrev pub is_on_pages : Commands → Bool
is_on_pages StandardInput = false
is_on_pages (Sources names word) = false
is_on_pages (Pages word) = true
is_on_pages (Bytes name) = false

-- The lines after which a page ends, or 0 if form feeds alone end pages: as many as the line says. If it says no number, commands for
-- every page have short pages of an input that has a page longer than a text may be.
abbrev pub page_lines_of : Line → List ℕ → ℕ
page_lines_of line input = elim line.page_lines [
  | Some lines ↦ lines
  | None ↦ if is_on_pages line.commands && nat_lt TEXT_LIMIT (longest_page input) then lines_within input else 0
]

-- Commands for every page come to no page that is longer than a text may be, wherever in the input it begins. But a line of the input
-- that is too long is a page that is too long.
abbrev pub PagesFit : Line → List ℕ → Type 0
PagesFit line input = line.page_lines ≡ None → IsTrue (is_on_pages line.commands) → longest_line input < TEXT_LIMIT
    → (place : ℕ) → length (page_of (page_lines_of line input) (drop place input)) ≤ TEXT_LIMIT
