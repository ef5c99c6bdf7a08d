-- What holds of all occurrences.
use Rattle.std.specs.Prelude.{◌≡◌, ◌↔◌, ℕ, ◌+◌, ◌<◌, ◌≤◌, false, List, [], ◌∷◌, length, map, Option, None, Some, All, AllPairs, Ok}
use Rattle.memchr.specs.Find.{OccursAt}
use Rattle.teco_core.specs.declared.case_mode.CaseMode.TheVariants.{Exact}
use Rattle.teco_search.specs.Literal.{plain}
use Rattle.teco_search.specs.Occurrence.{Sought, Span, looked_for, match_end}
use Rattle.teco_search.specs.Reading.{read}
use Rattle.teco_search.specs.Spelling.{is_control}

abbrev pub MatchesTo : Sought → List ℕ → ℕ → ℕ → Type 0
MatchesTo sought text p q = match_end sought.mode sought.elements text p ≡ Some q

-- Every match is at least one byte long, and within the text.
abbrev pub MatchesAreLong : Sought → List ℕ → Type 0
MatchesAreLong sought text = (p q : ℕ) → MatchesTo sought text p q → (p < q) × (q ≤ length text)

-- the match of least start at or after a place
pub record IsNext (sought : Sought) (text : List ℕ) (from : ℕ) (m : Span) : Type 0 where
  pub matches : MatchesTo sought text m.0 m.1
  pub after : from ≤ m.0
  pub least : (k q : ℕ) → from ≤ k → MatchesTo sought text k q → m.0 ≤ k

-- the match of highest start among those that end at or before a place
pub record IsLastEndingBy (sought : Sought) (text : List ℕ) (to : ℕ) (m : Span) : Type 0 where
  pub matches : MatchesTo sought text m.0 m.1
  pub ends : m.1 ≤ to
  pub highest : (k q : ℕ) → q ≤ to → MatchesTo sought text k q → k ≤ m.0

-- the match of highest start at or before a place
pub record IsLastStartingBy (sought : Sought) (text : List ℕ) (from : ℕ) (m : Span) : Type 0 where
  pub matches : MatchesTo sought text m.0 m.1
  pub by : m.0 ≤ from
  pub highest : (k q : ℕ) → k ≤ from → MatchesTo sought text k q → k ≤ m.0

-- the first match at or after a place, or none
abbrev pub FindsNext : Sought → List ℕ → ℕ → Option Span → Type 0
FindsNext sought text from None = (k q : ℕ) → from ≤ k → MatchesTo sought text k q → ⊥
FindsNext sought text from (Some m) = IsNext sought text from m

-- the match of highest start at or before a place, or none
abbrev pub FindsLastBy : Sought → List ℕ → ℕ → Option Span → Type 0
FindsLastBy sought text from None = (k q : ℕ) → k ≤ from → MatchesTo sought text k q → ⊥
FindsLastBy sought text from (Some m) = IsLastStartingBy sought text from m

-- Forward: each has the least start at or after the end of the one before it, the first at or after a place; and then there is none.
unfoldable pub AreForward : Sought → List ℕ → ℕ → List Span → Type 0
AreForward sought text from [] = (k q : ℕ) → from ≤ k → MatchesTo sought text k q → ⊥
AreForward sought text from (m ∷ ms) = IsNext sought text from m × AreForward sought text m.1 ms

-- Backward: the first has the highest start of those that end at or before a place, each next of those that end no later than the one before it begins;
-- and then there is none.
unfoldable pub AreBackwardEndingBy : Sought → List ℕ → ℕ → List Span → Type 0
AreBackwardEndingBy sought text to [] = (k q : ℕ) → q ≤ to → MatchesTo sought text k q → ⊥
AreBackwardEndingBy sought text to (m ∷ ms) = IsLastEndingBy sought text to m
    × AreBackwardEndingBy sought text m.0 ms

-- Backward from a place: the first has the highest start at or before it, wherever it ends.
unfoldable pub AreBackward : Sought → List ℕ → ℕ → List Span → Type 0
AreBackward sought text from [] = (k q : ℕ) → k ≤ from → MatchesTo sought text k q → ⊥
AreBackward sought text from (m ∷ ms) = IsLastStartingBy sought text from m
    × AreBackwardEndingBy sought text m.0 ms

-- They don't overlap, and rise or fall.
abbrev pub AreRising : List Span → Type 0
AreRising ms = AllPairs (λ m o. m.1 ≤ o.0) ms

abbrev pub AreFalling : List Span → Type 0
AreFalling ms = AllPairs (λ m o. o.1 ≤ m.0) ms

-- A search text without controls is read as its bytes, each of them itself.
abbrev pub ReadsAsItself : List ℕ → Type 0
ReadsAsItself bytes = All (λ b. is_control b ≡ false) bytes → read bytes ≡ Ok (map plain bytes)

-- In exact case bytes match from p to q exactly where they stand at p, and q is their end.
abbrev pub MatchesWhereItIs : List ℕ → List ℕ → ℕ → ℕ → Type 0
MatchesWhereItIs bytes text p q = MatchesTo (looked_for Exact (map plain bytes)) text p q
    ↔ (OccursAt text bytes p × (q ≡ p + length bytes))
