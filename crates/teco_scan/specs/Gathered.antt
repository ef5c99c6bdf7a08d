-- What is gathered of the tags of a list: the first place of each name.
use Rattle.std.specs.Prelude.{◌≡◌, ◌≤◌, ℕ, Bool, List, length, drop, Option, Some, None, IfSome, if◌then◌else◌}
use Rattle.std.specs.BTreeMap.{BTreeMap, get_by}
use Rattle.std.specs.Cmp.Lexicographic.{slice_cmp}
use Rattle.std.specs.Ordering.{nat_cmp}
use denote.Ref.{Bor}
use Rattle.teco_core.specs.declared.profile.Profile.{Profile}
use Rattle.teco_scan.specs.Closes.{tag_of}
use Rattle.teco_scan.specs.Lists.{tag_at}

-- the places of names that lie in the text
abbrev pub Places : Type 0
Places = BTreeMap (Bor (List ℕ)) ℕ

-- the place that is kept of a name
abbrev pub place_of : Places → List ℕ → Option ℕ
place_of places name = get_by (λ k. slice_cmp nat_cmp name k.now) places

-- what is kept of a name beside a tag, which has that name or another: the first place stays
abbrev pub with_tag : Bool → ℕ → Option ℕ → Option ℕ
with_tag named to (Some place) = Some place
with_tag named to None = if named then Some to else None

-- For each name these are the places of the first tag that is directly in the list, which begins at a place where so many blocks
-- are open.
pub record AreTags (p : Profile) (text : List ℕ) (start depth : ℕ) (places : Places) : Type 0 where
  pub finds : (name : List ℕ) → tag_of text (place_of places name) ≡ tag_at p name depth (drop start text)
  pub within : (name : List ℕ) → IfSome (place_of places name) (λ to. to ≤ length text)
