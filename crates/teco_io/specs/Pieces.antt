-- What a source over memory gives, read by read.
use Rattle.std.specs.Prelude.{ℕ, ◌-◌, Bool, List, [], ◌∷◌, take, drop, nat_le, if◌then◌else◌}

-- what is still to come
pub record Pieces : Type 0 where
  -- piece by piece, none of them empty
  pub pieces : List (List ℕ)
  -- whether it fails after the last, and does not end
  pub fails : Bool
  pub ended : Bool
  pub failures : ℕ

-- a piece before others, unless it is empty
unfoldable pub before_others : List ℕ → List (List ℕ) → List (List ℕ)
before_others [] ps = ps
before_others (b ∷ bs) ps = (b ∷ bs) ∷ ps

-- Bytes that begin at a place end a piece at each cut past it, and at their end.
unfoldable pub pieces_at : ℕ → List ℕ → List ℕ → List (List ℕ)
pieces_at at bs [] = before_others bs []
pieces_at at bs (cut ∷ cuts) =
    if nat_le cut at then pieces_at at bs cuts
    else before_others (take (cut - at) bs) (pieces_at cut (drop (cut - at) bs) cuts)

-- what a read into a room of so many bytes gives: the first piece, or as much of it as there is room for
unfoldable pub given_by : ℕ → List (List ℕ) → List ℕ
given_by room [] = []
given_by room (p ∷ ps) = take room p

-- and what is left then
unfoldable pub left_by : ℕ → List (List ℕ) → List (List ℕ)
left_by room [] = []
left_by room (p ∷ ps) = before_others (drop room p) ps
