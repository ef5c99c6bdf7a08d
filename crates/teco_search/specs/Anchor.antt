-- A place at a known distance from the start of each match, and the bytes that may be there.
use Rattle.std.specs.Prelude.{◌≡◌, ◌≢◌, ℕ, ◌+◌, ◌<◌, ◌≤◌, Bool, not, List, length, Option, None, Some, slice_get}
use Rattle.teco_core.specs.declared.case_mode.CaseMode.{CaseMode}
use Rattle.teco_search.specs.declared.anchor.Anchor.{Anchor}
use Rattle.teco_search.specs.declared.element.Element.{Element}
use Rattle.teco_search.specs.declared.element.Element.TheVariants.{Among, Except, Blanks}
use Rattle.teco_search.specs.ByteSet.{contains}
use Rattle.teco_search.specs.Element.{is_blank, admits}
use Rattle.teco_search.specs.Occurrence.{Sought, Span, match_end}

-- whether the match of an element may begin with a byte
unfoldable pub begins : CaseMode → Element → ℕ → Bool
begins mode (Among c) b = admits mode c b
begins mode (Except c) b = not (admits mode c b)
begins mode Blanks b = is_blank b

-- The first of some elements, so many, take one byte each: none is a run.
abbrev pub AreSingle : List Element → ℕ → Type 0
AreSingle es n = (k : ℕ) (e : Element) → k < n → slice_get es k ≡ Some e → e ≢ Blanks

-- The elements before the offset take one byte each, and the bytes are those with which the one there may begin.
pub record IsAnchored (mode : CaseMode) (es : List Element) (anchor : Anchor) : Type 0 where
  pub within : anchor.offset < length es
  pub single : AreSingle es anchor.offset
  pub bytes : (e : Element) (b : ℕ) → slice_get es anchor.offset ≡ Some e → b < 256
      → contains anchor.bytes b ≡ begins mode e b

-- a match whose anchor is below a place and which ends at or before another
pub record MatchesBelow (sought : Sought) (text : List ℕ) (offset below to k q : ℕ) : Type 0 where
  pub matches : match_end sought.mode sought.elements text k ≡ Some q
  pub low : k + offset < below
  pub ends : q ≤ to

-- the last of those, or none
abbrev pub FindsLastBelow : Sought → List ℕ → ℕ → ℕ → ℕ → Option Span → Type 0
FindsLastBelow sought text offset below to None = (k q : ℕ) → MatchesBelow sought text offset below to k q → ⊥
FindsLastBelow sought text offset below to (Some m) =
    MatchesBelow sought text offset below to m.0 m.1
    × ((k q : ℕ) → MatchesBelow sought text offset below to k q → k ≤ m.0)
