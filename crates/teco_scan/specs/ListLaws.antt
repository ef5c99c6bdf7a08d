-- What holds of the lists of a text.
use Rattle.std.specs.Prelude.{◌≡◌, ℕ, ◌<◌, true, List, length, Option, Some, None}
use Rattle.teco_core.specs.declared.code.Code.{Code}
use Rattle.teco_scan.specs.declared.blocks.Kind.{Kind}
use Rattle.teco_core.specs.declared.profile.Profile.{Profile}
use Rattle.teco_scan.specs.Scan.{TokenMeaning, found, fault, scan}
use Rattle.teco_scan.specs.Tree.{is_fault, after_tag}
use Rattle.teco_scan.specs.Lists.{Close, closed, broken, Listed, at_scan, list_at, tag_at_scan, tag_at}

-- A list closes with fewer than n bytes after it, or is broken.
abbrev pub Within : ℕ → Close → Type 0
Within n (closed divided bs) = length bs < n
Within n (broken c) = Unit {0}

-- The bytes are those after the first such tag in the list, which closes as it does from there.
abbrev pub Finds : Profile → List ℕ → Option Kind → ℕ → Listed → Option (List ℕ) → Type 0
Finds p name k d l None = after_tag name l.0 ≡ None
Finds p name k d l (Some bs) = (after_tag name l.0 ≡ Some (list_at p k d bs).0) × ((list_at p k d bs).1 ≡ l.1)

-- A list unrolls over the token that its bytes begin with, and so does the search for a tag. Each token has a byte, and so has
-- a list that closes. The search for a tag leads to what the list has after that tag. A fault that is scanned, and one that
-- breaks a list, is one of a text's own.
pub record BlockLaws (p : Profile) : Type 0 where
  pub list_unrolls : (k : Option Kind) (d : ℕ) (bs : List ℕ) → list_at p k d bs ≡ at_scan (list_at p) (scan p bs) k d
  pub search_unrolls : (name : List ℕ) (d : ℕ) (bs : List ℕ)
      → tag_at p name d bs ≡ tag_at_scan p name (tag_at p name) (scan p bs) d
  pub token_shortens : (bs : List ℕ) (t : TokenMeaning) (more : List ℕ) → scan p bs ≡ found t more
      → length more < length bs
  pub list_shortens : (k : Option Kind) (d : ℕ) (bs : List ℕ) → Within (length bs) (list_at p k d bs).1
  pub search_finds : (name : List ℕ) (k : Option Kind) (d : ℕ) (bs : List ℕ)
      → Finds p name k d (list_at p k d bs) (tag_at p name d bs)
  pub scan_faults : (bs : List ℕ) (c : Code) → scan p bs ≡ fault c → is_fault c ≡ true
  pub list_faults : (k : Option Kind) (d : ℕ) (bs : List ℕ) (c : Code) → (list_at p k d bs).1 ≡ broken c
      → is_fault c ≡ true

-- the same in each profile
abbrev pub EachBlockLaws : Type 0
EachBlockLaws = (p : Profile) → BlockLaws p
