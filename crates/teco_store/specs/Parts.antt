-- Parts of an output: some of its own bytes, or a part of its source, which is not copied.
use Rattle.std.specs.Prelude.{◌-◌, ◌≤◌, ℕ, List, [], ◌∷◌, ◌++◌, take, drop, slice_range}
use Rattle.teco_store.specs.declared.parts.Part.{Part}
use Rattle.teco_store.specs.declared.parts.Part.TheVariants.{Own, Lent}

-- how many bytes a part has, and how many of them are the output's own
abbrev pub size : Part → ℕ
size (Own count) = count
size (Lent from upto) = upto - from

abbrev pub own_size : Part → ℕ
own_size (Own count) = count
own_size (Lent from upto) = 0

-- the part without so many bytes at its end
abbrev pub without : Part → ℕ → Part
without (Own count) over = Own (count - over)
without (Lent from upto) over = Lent from (upto - over)

-- its bytes, where these own ones are left
abbrev pub piece : List ℕ → List ℕ → Part → List ℕ
piece own source (Own count) = take count own
piece own source (Lent from upto) = slice_range source from upto

-- the bytes of parts, one after another, which take the own ones in turn
abbrev pub joined : List ℕ → List ℕ → List Part → List ℕ
joined own source [] = []
joined own source (p ∷ ps) = piece own source p ++ joined (drop (own_size p) own) source ps

-- A part of the source doesn't end before it begins, and it ends within so many bytes.
abbrev pub IsOrdered : Part → Type 0
IsOrdered (Own count) = Unit {0}
IsOrdered (Lent from upto) = from ≤ upto

abbrev pub EndsWithin : ℕ → Part → Type 0
EndsWithin n (Own count) = Unit {0}
EndsWithin n (Lent from upto) = upto ≤ n
