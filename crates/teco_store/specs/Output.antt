-- What is stored of an output: its own bytes, and parts in order, which take those in turn or are parts of its source.
use Rattle.std.specs.Prelude.{◌≡◌, ◌+◌, ◌≤◌, ℕ, List, ◌∷◌, [], ◌++◌, length, take, Option, Some, None, option_to_list}
use Rattle.std.specs.Arc.{arc_value}
use Rattle.std.specs.List.{All, sum_by}
use Rattle.std.specs.declared.alloc.Global.{Global}
use Rattle.std.specs.declared.sync.Arc.{Arc}
use Rattle.std.specs.declared.vec.Vec.{Vec}
use Rattle.teco_store.specs.Parts.{joined, own_size, size, EndsWithin, IsOrdered}
use Rattle.teco_store.specs.declared.output.Cut.{Cut}
use Rattle.teco_store.specs.declared.output.Output.{Output}
use Rattle.teco_store.specs.declared.parts.Part.{Part}

-- the text that is shared, if there is one
abbrev pub text_in : Option (Arc (Vec ℕ Global) Global) → List ℕ
text_in None = []
text_in (Some text) = (arc_value text).items

-- what the parts that are not copied are parts of: the input, and after it the text that is shared
abbrev pub source_of : Output → List ℕ → List ℕ
source_of o input = input ++ text_in o.shared

abbrev pub bytes_of : Output → List ℕ → List ℕ
bytes_of o input = joined o.own.items (source_of o input) o.parts.items

-- The parts have the bytes that are counted, and just its own ones among them.
pub record IsCounted (o : Output) : Type 0 where
  pub ordered : All IsOrdered o.parts.items
  pub own : sum_by own_size o.parts.items ≡ length o.own.items
  pub len : sum_by size o.parts.items ≡ o.len

-- The parts of the source lie in it.
abbrev pub IsIn : Output → List ℕ → Type 0
IsIn o input = IsCounted o × All (EndsWithin (length (source_of o input))) o.parts.items

-- Two outputs that differ in their memory alone.
pub record IsSame (o new : Output) : Type 0 where
  pub own : new.own.items ≡ o.own.items
  pub parts : new.parts.items ≡ o.parts.items
  pub len : new.len ≡ o.len
  pub shared : new.shared ≡ o.shared

-- Some parts are others up to so many bytes.
pub record IsFront (shown : ℕ) (ps qs : List Part) : Type 0 where
  pub ordered : All IsOrdered qs
  pub size_is : sum_by size qs ≡ shown
  pub own : sum_by own_size qs ≤ sum_by own_size ps
  pub few : sum_by own_size qs ≤ shown
  pub ends : (n : ℕ) → All (EndsWithin n) ps → All (EndsWithin n) qs
  pub bytes : (own input : List ℕ) → sum_by own_size ps ≤ length own → All (EndsWithin (length input)) ps
      → joined own input qs ≡ take shown (joined own input ps)

-- what comes before a cut
abbrev pub kept : List Part → Cut → List Part
kept ps cut = take cut.parts ps ++ option_to_list cut.front

-- A cut is after so many bytes of the output.
pub record IsCut (o : Output) (shown : ℕ) (cut : Cut) : Type 0 where
  pub parts : cut.parts + length (option_to_list cut.front) ≤ length o.parts.items
  pub own : sum_by own_size (kept o.parts.items cut) ≡ cut.own
  pub front : IsFront shown o.parts.items (kept o.parts.items cut)

-- Some parts are others and one more, which may be joined to the last one.
pub record IsMore (ps : List Part) (p : Part) (qs : List Part) : Type 0 where
  pub ordered : All IsOrdered qs
  pub size_is : sum_by size qs ≡ sum_by size ps + size p
  pub own : sum_by own_size qs ≡ sum_by own_size ps + own_size p
  pub ends : (n : ℕ) → All (EndsWithin n) ps → EndsWithin n p → All (EndsWithin n) qs
  pub bytes : (own input : List ℕ) → joined own input qs ≡ joined own input (ps ++ p ∷ [])
  pub count : length qs ≤ length ps + 1

-- A part is two others, one after the other.
pub record IsBoth (p q both : Part) : Type 0 where
  pub ordered : IsOrdered both
  pub size_is : size both ≡ size p + size q
  pub own : own_size both ≡ own_size p + own_size q
  pub ends : (n : ℕ) → EndsWithin n p → EndsWithin n q → EndsWithin n both
  pub bytes : (own input : List ℕ) → joined own input (both ∷ []) ≡ joined own input (p ∷ q ∷ [])
