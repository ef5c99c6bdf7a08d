-- What is remembered of a text: skips and searches for tags that were made in it.
use Rattle.std.specs.Prelude.{◌≡◌, ◌≤◌, ℕ, true, List, Option, Some, IfSome, drop, length}
use Rattle.teco_core.specs.declared.profile.Profile.{Profile}
use Rattle.teco_scan.specs.Lists.{closed, list_at, tag_at}
use Rattle.teco_scan.specs.declared.blocks.Kind.TheVariants.{Then}
use Rattle.teco_scan.specs.Seen.{bytes_in}
use Rattle.teco_scan.specs.Closes.{tag_of}
use Rattle.teco_exec.specs.declared.remembered.Search.{Search}
use Rattle.teco_exec.specs.declared.remembered.Skip.{Skip}

-- From its place in this text, at its depth, the list of its kind closes where the skip stopped.
pub record IsSkipOf (p : Profile) (text : List ℕ) (s : Skip) : Type 0 where
  pub closes : closed s.divided (drop s.to text) ≡ (list_at p (Some s.kind) s.depth (drop s.at text)).1
  pub within : s.to ≤ length text
  pub divided : s.divided ≡ true → s.kind ≡ Then

-- The tag of the name that lies there in this text is where the search found it, if one is in that list.
pub record IsSearchOf (p : Profile) (text : List ℕ) (s : Search) : Type 0 where
  pub finds : tag_of text s.found
      ≡ tag_at p (bytes_in text (record { from = s.from; to = s.to })) s.depth (drop s.start text)
  pub within : IfSome s.found (λ to. to ≤ length text)

-- what is remembered at one place, if something is
abbrev pub IsSkipIfAny : Profile → List ℕ → Option Skip → Type 0
IsSkipIfAny p text o = IfSome o (IsSkipOf p text)

abbrev pub IsSearchIfAny : Profile → List ℕ → Option Search → Type 0
IsSearchIfAny p text o = IfSome o (IsSearchOf p text)
