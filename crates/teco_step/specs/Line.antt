-- Lines: a line ends at a line feed, a vertical tab or a form feed.
use Rattle.std.specs.Prelude.{if◌then◌else◌, ℕ, suc, ◌+◌, List, [], ◌∷◌, length, reverse, filter, slice_get, Option, Some, None, ℤ, pos, nat_abs, nat_le, nat_lt}
use Rattle.teco_core.specs.Ascii.{is_line_end}

-- the places of the line ends of bytes that begin at a place, rising
unfoldable pub line_ends_from : ℕ → List ℕ → List ℕ
line_ends_from place [] = []
line_ends_from place (b ∷ bs) = if is_line_end b then place ∷ line_ends_from (suc place) bs
    else line_ends_from (suc place) bs

abbrev pub line_ends : List ℕ → List ℕ
line_ends text = line_ends_from 0 text

abbrev pub one_past : Option ℕ → ℕ → ℕ
one_past (Some place) otherwise = place + 1
one_past None otherwise = otherwise

-- The place of line n, as seen from a place: for n above 0 one past the nth line end from there on, or the end of the text; for
-- other n one past the line end that is number 1-n, counted backward, among those before there, or 0.
abbrev pub line : List ℕ → ℕ → ℤ → ℕ
line text from (pos (suc n)) = one_past (slice_get (filter (λ place. nat_le from place) (line_ends text)) n)
    (length text)
line text from n = one_past (slice_get (reverse (filter (λ place. nat_lt place from) (line_ends text)))
    (nat_abs n)) 0
