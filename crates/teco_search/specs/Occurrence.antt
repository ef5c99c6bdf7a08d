-- Where the elements of a search text match, and which matches are its occurrences from a place.
use Rattle.std.specs.Prelude.{◌≡◌, ℕ, zero, suc, ◌+◌, Bool, not, List, [], ◌∷◌, length, drop, reverse, Option, Some, None, slice_get, ℤ, pos, negsuc, nat_le, ◌==◌, option_and_then, if◌then◌else◌}
use Rattle.std.specs.List.{filter_map, range_with_len, prefix_len}
use Rattle.std.specs.Option.{option_map}
use Rattle.teco_core.specs.declared.case_mode.CaseMode.{CaseMode}
use Rattle.teco_search.specs.declared.element.Element.{Element}
use Rattle.teco_search.specs.declared.element.Element.TheVariants.{Among, Except, Blanks}
use Rattle.teco_search.specs.Element.{is_blank, admits}

-- what is looked for: elements, in a case mode
pub record Sought : Type 0 where
  pub mode : CaseMode
  pub elements : List Element

abbrev pub looked_for : CaseMode → List Element → Sought
looked_for mode elements = record { mode = mode; elements = elements }

-- Matching.

-- the end of a byte that passes a test
abbrev pub end_of_byte : (ℕ → Bool) → List ℕ → ℕ → Option ℕ
end_of_byte passes text p = option_and_then (λ b. if passes b then Some (p + 1) else None) (slice_get text p)

-- how many spaces and tabs there are from a place on
abbrev pub blanks_at : List ℕ → ℕ → ℕ
blanks_at text p = prefix_len is_blank (drop p text)

-- the end of an element's match at a place
unfoldable pub element_end : CaseMode → Element → List ℕ → ℕ → Option ℕ
element_end mode (Among c) text p = end_of_byte (λ b. admits mode c b) text p
element_end mode (Except c) text p = end_of_byte (λ b. not (admits mode c b)) text p
element_end mode Blanks text p = if blanks_at text p == 0 then None else Some (p + blanks_at text p)

-- The elements match one after the other.
unfoldable pub match_end : CaseMode → List Element → List ℕ → ℕ → Option ℕ
match_end mode [] text p = Some p
match_end mode (e ∷ es) text p = option_and_then (match_end mode es text) (element_end mode e text p)

-- from a start to an end
abbrev pub Span : Type 0
Span = ℕ × ℕ

-- the match at a place
unfoldable pub match_at : Sought → List ℕ → ℕ → Option Span
match_at sought text p = option_map (λ end. (p, end)) (match_end sought.mode sought.elements text p)

-- all matches, their starts rising
unfoldable pub matches : Sought → List ℕ → List Span
matches sought text = filter_map (match_at sought text) (range_with_len 0 (length text))

-- Occurrences.

-- The first match that passes a test; then, of those after it, the first that passes the test which it sets; and so on.
unfoldable pub chosen : (Span → Span → Bool) → (Span → Bool) → List Span → List Span
chosen sets passes [] = []
chosen sets passes (m ∷ ms) = if passes m then m ∷ chosen sets (sets m) ms else chosen sets passes ms

abbrev pub starts_from : ℕ → Span → Bool
starts_from p m = nat_le p m.0

abbrev pub starts_by : ℕ → Span → Bool
starts_by p m = nat_le m.0 p

abbrev pub ends_by : ℕ → Span → Bool
ends_by p m = nat_le m.1 p

-- Forward: the first has the least start at or after a place; the next has the least start at or after the former's end.
unfoldable pub forward : Sought → List ℕ → ℕ → List Span
forward sought text from = chosen (λ m. starts_from m.1) (starts_from from) (matches sought text)

-- Backward: the first has the highest start among those that end at or before a place; the next, among those that end no later than the former began.
unfoldable pub backward_ending_by : Sought → List ℕ → ℕ → List Span
backward_ending_by sought text to = chosen (λ m. ends_by m.0) (ends_by to) (reverse (matches sought text))

-- Backward from a place: the first has the highest start at or before it, wherever it ends; the next, among those that end no later than the former began.
unfoldable pub backward : Sought → List ℕ → ℕ → List Span
backward sought text from = chosen (λ m. ends_by m.0) (starts_by from) (reverse (matches sought text))

-- the nth occurrence from a place, backward for a negative n
unfoldable pub occurrence : Sought → List ℕ → ℕ → ℤ → Option Span
occurrence sought text from (pos zero) = None
occurrence sought text from (pos (suc n)) = slice_get (forward sought text from) n
occurrence sought text from (negsuc n) = slice_get (backward sought text from) n

-- The forward occurrences from a place are none, or this one and then those from its end.
abbrev pub BeginsForward : Sought → List ℕ → ℕ → Option Span → Type 0
BeginsForward sought text from None = forward sought text from ≡ []
BeginsForward sought text from (Some m) = forward sought text from ≡ m ∷ forward sought text m.1

-- Backward occurrences are none, or this one and then those that end no later than it begins.
abbrev pub BeginsBackward : Sought → List ℕ → List Span → Option Span → Type 0
BeginsBackward sought text all None = all ≡ []
BeginsBackward sought text all (Some m) = all ≡ m ∷ backward_ending_by sought text m.0
