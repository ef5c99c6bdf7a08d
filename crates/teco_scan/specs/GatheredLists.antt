-- The lists of a text whose tags were gathered.
use Rattle.std.specs.Prelude.{ℕ, List, IfSome}
use Rattle.std.specs.BTreeMap.{BTreeMap, get}
use Rattle.std.specs.Ordering.{nat_cmp}
use Rattle.teco_scan.specs.declared.gathering.ListTags.{ListTags}
use Rattle.teco_core.specs.declared.profile.Profile.{Profile}
use Rattle.teco_scan.specs.Gathered.{AreTags}

-- Of each place at which a list was gathered these are its tags.
abbrev pub AreGathered : Profile → List ℕ → BTreeMap ℕ ListTags → Type 0
AreGathered p text lists = (start : ℕ) → IfSome (get nat_cmp lists start) (λ list. AreTags p text start list.depth list.places)
