-- What the calls tell of the changes of a string.
use Rattle.std.specs.Prelude.{ℕ, List, Option, Some, None, option_map, option_and_then, slice_get}
use Rattle.teco_store.specs.Kinds.{kind_of}
use Rattle.teco_store.specs.Turn.{Note}
use Rattle.teco_store.specs.declared.change_kind.ChangeKind.{ChangeKind}
use Rattle.teco_store.specs.declared.change_kind.ChangeKind.TheVariants.{Splice, Point, Number, Text, Push, Pop, Pages, Search, Found, Done, Mode}
use Rattle.teco_ffi.specs.Handle.{Kept}
pub use Rattle.teco_ffi.specs.Kinds.{kind_number, name_in}

-- the changes of the string at a place, as an undo or a redo would turn them now
abbrev pub changes_of : ℕ → Kept → Option (List Note)
changes_of i kept = option_map (λ string. string.changes) (slice_get kept.strings i)

-- one of them, if there are so many
abbrev pub change_of : ℕ → ℕ → Kept → Option Note
change_of i k kept = option_and_then (λ changes. slice_get changes k) (changes_of i kept)

-- and what it is for
abbrev pub kind_at : ℕ → ℕ → Kept → Option ChangeKind
kind_at i k kept = option_map (λ change. kind_of change.turn) (change_of i k kept)

-- a splice: its place in the text, how many bytes a turn takes out there, and how many it puts in
pub record SpliceNumbers : Type 0 where
  pub at : ℕ
  pub gone : ℕ
  pub came : ℕ

abbrev pub splice_in : ChangeKind → Option SpliceNumbers
splice_in (Splice at gone came) = Some (record { at = at; gone = gone; came = came })
splice_in Point = None
splice_in (Number q) = None
splice_in (Text q) = None
splice_in Push = None
splice_in (Pop q) = None
splice_in Pages = None
splice_in Search = None
splice_in Found = None
splice_in Done = None
splice_in Mode = None

-- one of the changes, if it is there and is a splice
abbrev pub splice_of : ℕ → ℕ → Kept → Option SpliceNumbers
splice_of i k kept = option_and_then splice_in (kind_at i k kept)
