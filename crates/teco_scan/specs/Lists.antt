-- The lists of a text: the nodes in a block, or in the text itself, and how such a list closes.
use Rattle.std.specs.Prelude.{Bool, true, false, ℕ, zero, suc, List, length, Option, Some, None, Result, Ok, Err, ◌==◌, if◌then◌else◌}
use Rattle.std.specs.Str.{bytes_eq}
use Rattle.teco_core.specs.declared.code.Code.{Code}
use Rattle.teco_core.specs.declared.code.Code.TheVariants.{Bni, Ill, Pdo, Utc}
use Rattle.teco_core.specs.declared.limits.TheConstants.{BLOCK_LIMIT}
use Rattle.teco_scan.specs.declared.command.Modifiers.{Modifiers}
use Rattle.teco_scan.specs.declared.command.Test.{Test}
use Rattle.teco_scan.specs.declared.command.BlockMark.{BlockMark}
use Rattle.teco_scan.specs.declared.command.BlockMark.TheVariants.{Iterate, EndIteration, Otherwise, EndTest}
use Rattle.teco_scan.specs.declared.blocks.Kind.{Kind}
use Rattle.teco_core.specs.declared.profile.Profile.{Profile}
use Rattle.teco_scan.specs.declared.blocks.Kind.TheVariants.{Iter, Then, Else}
use Rattle.teco_scan.specs.Scan.{Instruction, Scanned, found, ended, fault, scan}
use Rattle.teco_scan.specs.Scan as token
use Rattle.teco_scan.specs.Tree.{Nodes, done, item, escape, iter, cond, tag, faulty}

-- How a list closes: at `|` (true) or at the end of its block, with the bytes after that; or it is broken by a fault, or by the end of the text.
pub data Close : Type 0 where
  closed : Bool → List ℕ → Close
  broken : Code → Close

-- the bytes after what was passed, or the fault
abbrev pub Past : Type 0
Past = Result (List ℕ) Code

abbrev pub past : Close → Past
past (closed divided bytes) = Ok bytes
past (broken code) = Err code

-- the nodes of a list, and how it closes
abbrev pub Listed : Type 0
Listed = Nodes × Close

-- the list of the bytes, in a block of this kind or in the text itself, where so many blocks are open
abbrev pub Lister : Type 0
Lister = Option Kind → ℕ → List ℕ → Listed

abbrev pub wrong : Code → Listed
wrong code = (faulty code, broken code)

-- The list goes on after a node; a fault in the node breaks the list too.
abbrev pub behind : Lister → Option Kind → ℕ → Past → Listed
behind lists kind depth (Ok bytes) = lists kind depth bytes
behind lists kind depth (Err code) = wrong code

-- one node more in front
abbrev pub put : (Nodes → Nodes) → Listed → Listed
put in_front listed = (in_front listed.0, listed.1)

-- the second part of a conditional whose first part closes so: after `|` a list of its own, else empty
abbrev pub second : Lister → ℕ → Close → Listed
second lists depth (closed true bytes) = lists (Some Else) depth bytes
second lists depth (closed false bytes) = (done, closed false bytes)
second lists depth (broken code) = (done, broken code)

-- the bytes after a whole block whose list closes so: after both parts of a conditional
abbrev pub behind_block : Lister → Kind → ℕ → Close → Past
behind_block lists Iter depth close = past close
behind_block lists Then depth close = past (second lists depth close).1
behind_block lists Else depth close = past close

abbrev pub iter_at : Lister → Option Kind → ℕ → Listed → Listed
iter_at lists kind depth body = put (iter body.0) (behind lists kind depth (past body.1))

abbrev pub cond_at : Lister → Option Kind → ℕ → Test → Listed → Listed
cond_at lists kind depth test first = let other : Listed = second lists (suc depth) first.1 in put (cond test first.0 other.0)
    (behind lists kind depth (past other.1))

-- A block is opened where fewer than the most blocks are open; one more is PDO.
abbrev pub opened : ℕ → Listed → Listed
opened depth listed = if depth == BLOCK_LIMIT then wrong Pdo else listed

-- `>` ends an iteration, else it is BNI; `|` ends a conditional's first part and `'` either part, else they are ILL.
abbrev pub at_mark : Lister → BlockMark → List ℕ → Option Kind → ℕ → Listed
at_mark lists Iterate bytes kind depth = opened depth (iter_at lists kind depth (lists (Some Iter) (suc depth) bytes))
at_mark lists EndIteration bytes (Some Iter) depth = (done, closed false bytes)
at_mark lists EndIteration bytes kind depth = wrong Bni
at_mark lists Otherwise bytes (Some Then) depth = (done, closed true bytes)
at_mark lists Otherwise bytes kind depth = wrong Ill
at_mark lists EndTest bytes (Some Then) depth = (done, closed false bytes)
at_mark lists EndTest bytes (Some Else) depth = (done, closed false bytes)
at_mark lists EndTest bytes kind depth = wrong Ill

abbrev pub at_instruction : Lister → Instruction → Modifiers → List ℕ → Option Kind → ℕ → Listed
at_instruction lists (token.step command) modifiers bytes kind depth = put (item modifiers command) (lists kind depth bytes)
at_instruction lists (token.mark of_block) modifiers bytes kind depth = at_mark lists of_block bytes kind depth
at_instruction lists (token.decide test) modifiers bytes kind depth =
    opened depth (cond_at lists kind depth test (lists (Some Then) (suc depth) bytes))
at_instruction lists (token.tag name) modifiers bytes kind depth = put (tag name) (lists kind depth bytes)
at_instruction lists token.escape modifiers bytes kind depth = put escape (lists kind depth bytes)

-- From what was scanned on. The end of the text ends the text's own list with no fault among its nodes; no mark closes that list,
-- so its close is UTC too. Inside a block the end of the text is the fault UTC.
abbrev pub at_scan : Lister → Scanned → Option Kind → ℕ → Listed
at_scan lists ended None depth = (done, broken Utc)
at_scan lists ended (Some kind) depth = wrong Utc
at_scan lists (fault code) kind depth = wrong code
at_scan lists (found next bytes) kind depth = at_instruction lists next.instruction next.modifiers bytes kind depth

-- within so many tokens
unfoldable pub list_within : Profile → ℕ → Lister
list_within p zero kind depth bytes = wrong Utc
list_within p (suc tokens) kind depth bytes = at_scan (list_within p tokens) (scan p bytes) kind depth

-- Each token has a byte, so this is every token: `block_laws` has the equation without the count.
unfoldable pub list_at : Profile → Lister
list_at p kind depth bytes = list_within p (suc (length bytes)) kind depth bytes

-- the nodes of a text, in a profile
abbrev pub nodes : Profile → List ℕ → Nodes
nodes p bytes = (list_at p None 0 bytes).0

-- the bytes after the first tag of a name that is directly in the list of these bytes, where so many blocks are open
abbrev pub Finder : Type 0
Finder = ℕ → List ℕ → Option (List ℕ)

abbrev pub tag_behind : Finder → ℕ → Past → Option (List ℕ)
tag_behind finds depth (Ok bytes) = finds depth bytes
tag_behind finds depth (Err code) = None

abbrev pub tag_opened : ℕ → Option (List ℕ) → Option (List ℕ)
tag_opened depth found_tag = if depth == BLOCK_LIMIT then None else found_tag

-- Blocks are passed whole; the mark that closes the list ends the search.
abbrev pub tag_at_instruction : Profile → List ℕ → Finder → Instruction → List ℕ → ℕ → Option (List ℕ)
tag_at_instruction p name finds (token.step command) bytes depth = finds depth bytes
tag_at_instruction p name finds (token.mark Iterate) bytes depth = tag_opened depth
    (tag_behind finds depth (behind_block (list_at p) Iter (suc depth) (list_at p (Some Iter) (suc depth) bytes).1))
tag_at_instruction p name finds (token.mark of_block) bytes depth = None
tag_at_instruction p name finds (token.decide test) bytes depth = tag_opened depth
    (tag_behind finds depth (behind_block (list_at p) Then (suc depth) (list_at p (Some Then) (suc depth) bytes).1))
tag_at_instruction p name finds (token.tag other) bytes depth = if bytes_eq other name then Some bytes else finds depth bytes
tag_at_instruction p name finds token.escape bytes depth = finds depth bytes

abbrev pub tag_at_scan : Profile → List ℕ → Finder → Scanned → ℕ → Option (List ℕ)
tag_at_scan p name finds (found next bytes) depth = tag_at_instruction p name finds next.instruction bytes depth
tag_at_scan p name finds ended depth = None
tag_at_scan p name finds (fault code) depth = None

-- within so many tokens
unfoldable pub tag_within : Profile → ℕ → List ℕ → Finder
tag_within p zero name depth bytes = None
tag_within p (suc tokens) name depth bytes = tag_at_scan p name (tag_within p tokens name) (scan p bytes) depth

unfoldable pub tag_at : Profile → List ℕ → Finder
tag_at p name depth bytes = tag_within p (suc (length bytes)) name depth bytes
