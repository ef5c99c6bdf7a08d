-- Where the lists of a text break: the first fault of its spelling.
use Rattle.std.specs.Prelude.{◌≡◌, ℕ, ◌+◌, ◌-◌, ◌≤◌, List, length, drop, Option, Some, None}
use Rattle.teco_core.specs.declared.code.Code.{Code}
use Rattle.teco_core.specs.declared.code.Code.TheVariants.{Pdo, Utc}
use Rattle.teco_scan.specs.declared.blocks.Kind.{Kind}
use Rattle.teco_scan.specs.declared.blocks.Kind.TheVariants.{Iter, Then, Else}
use Rattle.teco_scan.specs.declared.breaks.ListFault.{ListFault}
use Rattle.teco_scan.specs.declared.breaks.ListAt.{ListAt}
use Rattle.teco_core.specs.declared.profile.Profile.{Profile}
use Rattle.teco_scan.specs.Scan.{after_fillers}
use Rattle.teco_scan.specs.Walk.{Break, unreadable, stray, unended, too_deep, OpenList, Rule, walk, first_by}

-- A token begins at the first byte from a place on that is no filler, or at the end where none is left.
pub record IsTokenPlace (text : List ℕ) (at to : ℕ) : Type 0 where
  pub rest : drop to text ≡ after_fillers (drop at text)
  pub within : to ≤ length text

-- where the mark is after which a list begins: `"` and its letter are two bytes, `<` and `|` are one
abbrev pub opening : Kind → ℕ → ℕ
opening Then start = start - 2
opening Iter start = start - 1
opening Else start = start - 1

abbrev pub mark_before : Option Kind → ℕ → Option ℕ
mark_before None start = None
mark_before (Some kind) start = Some (opening kind start)

abbrev pub fault_at : ℕ → Code → ListFault
fault_at at code = record { at = at; opened = None; code = code }

-- What is told of a break: its place and code; of a block without an end, the mark before its list too.
abbrev pub broken_so : ℕ → Break → OpenList → ListFault
broken_so at (unreadable code) list = fault_at at code
broken_so at (stray code) list = fault_at at code
broken_so at unended list = record { at = at; opened = mark_before list.kind list.start; code = Utc }
broken_so at too_deep list = fault_at at Pdo

-- the rule of spelling, which finds nothing wrong with an item
abbrev pub by_spelling : Rule ListFault
by_spelling = record { breaks = broken_so; item = λ at item lists. None }

-- the first fault of a text, if it has one
abbrev pub first_break : Profile → List ℕ → Option ListFault
first_break p text = first_by p by_spelling text

-- the list of a part of a block that opens in another list, and begins here
abbrev pub inside_list : ListAt → Kind → ℕ → ListAt
inside_list list kind start = record { kind = Some kind; start = start; depth = list.depth + 1 }

-- A list of a text breaks so, from a place in it on: wherever its block opens, and whatever lists are around it.
pub record Breaks (p : Profile) (text : List ℕ) (list : ListAt) (at : ℕ) (there : ListFault) : Type 0 where
  pub walked : (opens : ℕ) (around : List OpenList) → length around ≡ list.depth
      → walk p by_spelling text (record { kind = list.kind; opening = opens; start = list.start }) around (drop at text)
      ≡ Some there
