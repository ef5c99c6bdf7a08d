-- A walk over a text: its tokens one after another, from the left, with the lists that are open at each, up to the first fault.
use Rattle.std.specs.Prelude.{ℕ, zero, suc, ◌-◌, List, [], ◌∷◌, length, Option, Some, None, ◌==◌, if◌then◌else◌}
use Rattle.teco_core.specs.declared.code.Code.{Code}
use Rattle.teco_core.specs.declared.code.Code.TheVariants.{Bni, Ill}
use Rattle.teco_core.specs.declared.limits.TheConstants.{BLOCK_LIMIT}
use Rattle.teco_scan.specs.declared.command.BlockMark.{BlockMark}
use Rattle.teco_scan.specs.declared.command.BlockMark.TheVariants.{Iterate, EndIteration, Otherwise, EndTest}
use Rattle.teco_scan.specs.declared.blocks.Kind.{Kind}
use Rattle.teco_core.specs.declared.profile.Profile.{Profile}
use Rattle.teco_scan.specs.declared.blocks.Kind.TheVariants.{Iter, Then, Else}
use Rattle.teco_scan.specs.Scan.{Item, Instruction, Scanned, found, ended, fault, scan, after_fillers}
use Rattle.teco_scan.specs.Scan as token

-- An open list: its kind, or none for that of the text itself, the place of the token that opens its block, and the place
-- where it begins.
pub record OpenList : Type 0 where
  pub kind : Option Kind
  pub opening : ℕ
  pub start : ℕ

-- the text's own list
abbrev pub own_list : OpenList
own_list = record { kind = None; opening = 0; start = 0 }

-- What breaks a list: bytes that are no token, a mark that ends or divides no such block, the end of the text inside a block,
-- or one block too many.
pub data Break : Type 0 where
  unreadable : Code → Break
  stray : Code → Break
  unended : Break
  too_deep : Break

-- What is told of a break at a place, in this innermost list; and of an item at a place, where these lists are open, if
-- anything is wrong with it.
pub record Rule (F : Type 0) : Type 0 where
  pub breaks : ℕ → Break → OpenList → F
  pub item : ℕ → Item → List OpenList → Option F

-- the place at which the rest of the bytes begins
abbrev pub place : List ℕ → List ℕ → ℕ
place bytes rest = length bytes - length rest

-- what comes next: in the innermost open list, with those around it, from these bytes on
abbrev pub Walker : Type 0 → Type 0
Walker F = OpenList → List OpenList → List ℕ → Option F

abbrev pub after_item : {F : Type 0} → Walker F → Option F → Walker F
after_item go None o os rest = go o os rest
after_item go (Some wrong) o os rest = Some wrong

-- A block is opened, if fewer than the most are open.
abbrev pub in_block : {F : Type 0} → Rule F → Walker F → List ℕ → Kind → ℕ → Walker F
in_block rule go bytes kind at o os rest =
    if length os == BLOCK_LIMIT then Some (rule.breaks at too_deep o)
    else go (record { kind = Some kind; opening = at; start = place bytes rest }) (o ∷ os) rest

-- after the end of the innermost list
abbrev pub out_of : {F : Type 0} → Walker F → List OpenList → List ℕ → Option F
out_of go [] rest = None
out_of go (o ∷ os) rest = go o os rest

-- `>` ends an iteration, `|` divides a conditional, and `'` ends either part of one. Elsewhere they are stray.
abbrev pub at_mark : {F : Type 0} → Rule F → Walker F → List ℕ → BlockMark → Option Kind → ℕ → Walker F
at_mark rule go bytes Iterate kind at o os rest = in_block rule go bytes Iter at o os rest
at_mark rule go bytes EndIteration (Some Iter) at o os rest = out_of go os rest
at_mark rule go bytes EndIteration kind at o os rest = Some (rule.breaks at (stray Bni) o)
at_mark rule go bytes Otherwise (Some Then) at o os rest =
    go (record o { kind = Some Else; start = place bytes rest }) os rest
at_mark rule go bytes Otherwise kind at o os rest = Some (rule.breaks at (stray Ill) o)
at_mark rule go bytes EndTest (Some Then) at o os rest = out_of go os rest
at_mark rule go bytes EndTest (Some Else) at o os rest = out_of go os rest
at_mark rule go bytes EndTest kind at o os rest = Some (rule.breaks at (stray Ill) o)

abbrev pub at_instruction : {F : Type 0} → Rule F → Walker F → List ℕ → Instruction → ℕ → Walker F
at_instruction rule go bytes (token.step i) at o os rest = after_item go (rule.item at i (o ∷ os)) o os rest
at_instruction rule go bytes (token.mark b) at o os rest = at_mark rule go bytes b o.kind at o os rest
at_instruction rule go bytes (token.decide t) at o os rest = in_block rule go bytes Then at o os rest
at_instruction rule go bytes (token.tag name) at o os rest = go o os rest
at_instruction rule go bytes token.escape at o os rest = go o os rest

-- At the end of the text no block may be open; the innermost that is has no end.
abbrev pub at_end : {F : Type 0} → Rule F → Option Kind → ℕ → OpenList → Option F
at_end rule None at o = None
at_end rule (Some kind) at o = Some (rule.breaks at unended o)

-- from what was scanned on, which begins at this place
abbrev pub at_scan : {F : Type 0} → Rule F → Walker F → List ℕ → Scanned → ℕ → OpenList → List OpenList → Option F
at_scan rule go bytes (found t rest) at o os = at_instruction rule go bytes t.instruction at o os rest
at_scan rule go bytes ended at o os = at_end rule o.kind at o
at_scan rule go bytes (fault code) at o os = Some (rule.breaks at (unreadable code) o)

-- within so many tokens
unfoldable pub walk_within : {F : Type 0} → Profile → ℕ → Rule F → List ℕ → Walker F
walk_within p zero rule bytes o os bs = None
walk_within p (suc n) rule bytes o os bs =
    at_scan rule (walk_within p n rule bytes) bytes (scan p bs) (place bytes (after_fillers bs)) o os

-- Each token has a byte, so this is every token.
unfoldable pub walk : {F : Type 0} → Profile → Rule F → List ℕ → Walker F
walk p rule bytes o os bs = walk_within p (suc (length bs)) rule bytes o os bs

-- the first fault of a text by a rule, if it has one
abbrev pub first_by : {F : Type 0} → Profile → Rule F → List ℕ → Option F
first_by p rule bytes = walk p rule bytes own_list [] bytes
