-- The cursor and the answers of its methods, as the machine sees them.
use Rattle.std.specs.Prelude.{◌≡◌, ◌<◌, ◌≤◌, false, ℕ, List, [], length, drop, Result, Ok, Err}
use Rattle.teco_core.specs.Arguments.{Arguments}
use Rattle.teco_core.specs.ArgumentsView.{arguments}
use Rattle.teco_core.specs.declared.code.Code.{Code}
use Rattle.teco_core.specs.declared.limits.TheConstants.{BLOCK_LIMIT}
use Rattle.teco_scan.specs.declared.token.Found.{Found}
use Rattle.teco_scan.specs.declared.token.Found.TheVariants as found
use Rattle.teco_scan.specs.declared.token.TokenKind.{TokenKind}
use Rattle.teco_scan.specs.declared.token.TokenKind.TheVariants as kind
use Rattle.teco_scan.specs.Scan.{Item, digits}
use Rattle.teco_scan.specs.Seen.{item_in}
use Rattle.teco_step.specs.Stepping.{IsStepIn}
use Rattle.teco_step.specs.Ending.{is_unfinished_code}
use Rattle.teco_exec.specs.Frames.{EndsTurn, frames}
use Rattle.teco_exec.specs.CursorMoves.{CursorOrError, passed_to, step_comes, block_comes, end_comes, fault_comes}
use Rattle.teco_exec.specs.CursorMoves as machine
use Rattle.teco_exec.specs.declared.blocks.Block.{Block}
use Rattle.teco_exec.specs.declared.cursor.Cursor.{Cursor}
use Rattle.teco_exec.specs.declared.moves.BlockStep.{BlockStep}
use Rattle.teco_exec.specs.declared.moves.BlockStep.TheVariants as block
use Rattle.teco_exec.specs.declared.moves.Coming.{Coming}
use Rattle.teco_exec.specs.declared.moves.Coming.TheVariants as coming

abbrev pub cursor : Cursor → machine.Cursor
cursor c = record {
  args = arguments c.args;
  left = drop c.at c.text.bytes.now;
  blocks = frames c.text.bytes.now c.blocks;
}

-- the beginning of a text
abbrev pub cursor_at_start : Arguments → List ℕ → machine.Cursor
cursor_at_start a text = record { args = a; left = text; blocks = [] }

-- a cursor that goes on, unless an error came
abbrev pub cursor_or_error : {U : Type 0} → Cursor → Result U Code → CursorOrError
cursor_or_error c (Ok u) = Ok (cursor c)
cursor_or_error c (Err e) = Err e

-- A cursor stays at its place, in its blocks.
pub record Stays (old new : Cursor) : Type 0 where
  pub place : new.at ≡ old.at
  pub frames : new.blocks ≡ old.blocks

-- neither want of memory nor a failed terminal
abbrev pub ResultFinishes : {U : Type 0} → Result U Code → Type 0
ResultFinishes (Ok u) = Unit {0}
ResultFinishes (Err e) = is_unfinished_code e ≡ false

abbrev pub item_of_kind : List ℕ → TokenKind → Item
item_of_kind text (kind.Item i) = item_in text i
item_of_kind text k = digits []

abbrev pub block_step_of : BlockStep → machine.BlockStep
block_step_of block.Iterate = machine.iterates
block_step_of block.EndTurn = machine.ends_turn
block_step_of (block.Decide t) = machine.decides t

-- the step of the token that was found
abbrev pub coming_of_found : Cursor → Found → machine.Coming
coming_of_found c (found.Token t) = step_comes t.modifiers (item_of_kind c.text.bytes.now t.kind) (cursor c)
coming_of_found c found.End = end_comes
coming_of_found c (found.Fault e) = fault_comes e

-- What comes next, where this was found at the cursor.
abbrev pub coming_of : Cursor → Found → Coming → machine.Coming
coming_of c f coming.Passed = passed_to (cursor c)
coming_of c f coming.Step = coming_of_found c f
coming_of c f (coming.Block o to) = block_comes (block_step_of o) (drop to c.text.bytes.now)
coming_of c f coming.End = end_comes
coming_of c f (coming.Fault e) = fault_comes e

-- the token that was found is a step
abbrev pub IsStepFound : List ℕ → Found → Type 0
IsStepFound text (found.Token t) = IsStepIn text t
IsStepFound text f = ⊥

-- A turn of an iteration ends, or there is room for one block more.
abbrev pub MayOpen : BlockStep → List Block → Type 0
MayOpen block.EndTurn bs = EndsTurn bs
MayOpen o bs = length bs < BLOCK_LIMIT

-- what else is told of what comes next: what is no move leaves the cursor as it was, but at a step it is
-- after the token
abbrev pub TellsComing : Cursor → Cursor → Found → Coming → Type 0
TellsComing old new f coming.Passed = Unit {0}
TellsComing old new f coming.Step = IsStepFound new.text.bytes.now f
TellsComing old new f (coming.Block o to) = (to ≤ length new.text.bytes.now) × (MayOpen o new.blocks) × (new ≡ old)
TellsComing old new f coming.End = new ≡ old
TellsComing old new f (coming.Fault e) = (is_unfinished_code e ≡ false) × (new ≡ old)
