-- Skipping a block, and finding a tag: what a token is to them, and by which byte they end.
use Rattle.std.specs.Prelude.{◌≡◌, ℕ, ◌-◌, Bool, true, false, List, ◌∷◌, drop, Option, Some, None}
use Rattle.std.specs.Str.{bytes_eq}
use Rattle.teco_scan.specs.declared.command.BlockMark.{BlockMark}
use Rattle.teco_scan.specs.declared.command.BlockMark.TheVariants.{Iterate, EndIteration, Otherwise, EndTest}
use Rattle.teco_scan.specs.declared.blocks.Kind.{Kind}
use Rattle.teco_scan.specs.declared.blocks.Kind.TheVariants.{Iter, Then, Else}
use Rattle.teco_scan.specs.declared.blocks.SkipEnd.{SkipEnd}
use Rattle.teco_core.specs.declared.profile.Profile.{Profile}
use Rattle.teco_scan.specs.Scan.{Instruction, mark, decide, tag}
use Rattle.teco_scan.specs.Lists.{list_at, tag_at}
use Prim.Native.Char.{code}

-- the last byte that a skip passes: `|` where the block is divided, else `>` of an iteration and `'` of a conditional
abbrev pub closing_byte : Kind → Bool → ℕ
closing_byte kind true = code "|"
closing_byte Iter false = code ">"
closing_byte Then false = code "'"
closing_byte Else false = code "'"

-- how a mark is written
abbrev pub byte_of : BlockMark → ℕ
byte_of Iterate = code "<"
byte_of EndIteration = code ">"
byte_of Otherwise = code "|"
byte_of EndTest = code "'"

-- A skip stopped one past that byte.
abbrev pub IsClosed : List ℕ → Kind → SkipEnd → Type 0
IsClosed bs kind stop = drop (stop.to - 1) bs ≡ closing_byte kind stop.divided ∷ drop stop.to bs

-- A whole block was skipped up to one past the byte that ends it.
abbrev pub IsWholeClosed : List ℕ → Kind → ℕ → Type 0
IsWholeClosed bs kind to = drop (to - 1) bs ≡ closing_byte kind false ∷ drop to bs

-- A place is one past the `!` that ends a tag.
abbrev pub IsBehindTag : List ℕ → ℕ → Type 0
IsBehindTag bs to = drop (to - 1) bs ≡ code "!" ∷ drop to bs

-- the mark by which a block ends or is divided, if the token is one
abbrev pub closing_mark : Instruction → Option BlockMark
closing_mark (mark EndIteration) = Some EndIteration
closing_mark (mark Otherwise) = Some Otherwise
closing_mark (mark EndTest) = Some EndTest
closing_mark _ = None

-- the kind of block that a token opens
abbrev pub opened_kind : Instruction → Option Kind
opened_kind (mark Iterate) = Some Iter
opened_kind (decide test) = Some Then
opened_kind _ = None

-- the token is the tag of this name
abbrev pub is_tag : List ℕ → Instruction → Bool
is_tag name (tag other) = bytes_eq other name
is_tag name _ = false

-- From these bytes and from those a list closes alike, and a search finds the same tag.
pub record AreAlike (p : Profile) (bs more : List ℕ) : Type 0 where
  pub closes : (k : Option Kind) (d : ℕ) → (list_at p k d bs).1 ≡ (list_at p k d more).1
  pub finds : (name : List ℕ) (d : ℕ) → tag_at p name d bs ≡ tag_at p name d more
