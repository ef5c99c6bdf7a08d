-- Texts that take no memory.
use Rattle.std.specs.Prelude.{◌≡◌, [], Bool, true, false, ◌&&◌}
use Rattle.teco_core.specs.declared.profile.Profile.{Profile}
use Rattle.teco_scan.specs.Lists.{nodes}
use Rattle.teco_scan.specs.Tree.{Nodes, done, item, escape, iter, cond, tag, faulty}
use Rattle.teco_step.specs.Step.{End, on, leave, go, call, out, again, stop}
use Rattle.teco_step.specs.Stepping.{takes_nothing}
use Rattle.teco_exec.specs.CursorMoves.{Cursor, Coming, passed_to, step_comes, block_comes, end_comes, fault_comes}

-- Values and arithmetic alone, with ESC between them, and perhaps a fault at the end.
abbrev pub takes_no_memory : Nodes → Bool
takes_no_memory done = true
takes_no_memory (faulty c) = true
takes_no_memory (escape rest) = takes_no_memory rest
takes_no_memory (item m i rest) = takes_nothing i && takes_no_memory rest
takes_no_memory (iter body rest) = false
takes_no_memory (cond t first second rest) = false
takes_no_memory (tag name rest) = false

-- After a step that ends so the string goes on, or is over.
abbrev pub is_plain : End → Bool
is_plain on = true
is_plain out = true
is_plain (stop c) = true
is_plain leave = false
is_plain (go name) = false
is_plain (call text) = false
is_plain (again work) = false

-- In no block, and what is left takes no memory.
pub record IsQuiet (p : Profile) (c : Cursor) : Type 0 where
  pub blocks : c.blocks ≡ []
  pub left : takes_no_memory (nodes p c.left) ≡ true

-- What comes next is a step that takes nothing, or the end.
abbrev pub QuietComing : Profile → Coming → Type 0
QuietComing p (passed_to c) = IsQuiet p c
QuietComing p (step_comes m i c) = (takes_nothing i ≡ true) × IsQuiet p c
QuietComing p (block_comes b bs) = ⊥
QuietComing p end_comes = Unit {0}
QuietComing p (fault_comes e) = Unit {0}
