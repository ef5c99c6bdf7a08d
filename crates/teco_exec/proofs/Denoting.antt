-- What the recursive meaning makes of a machine's configuration.
use Rattle.std.specs.Prelude.{◌≡◌, ℕ, suc, List, [], ◌∷◌, length, Option, Some, Ok, Err}
use Rattle.teco_scan.specs.declared.blocks.Kind.{Kind}
use Rattle.teco_scan.specs.declared.blocks.Kind.TheVariants.{Iter, Then, Else}
use Rattle.teco_scan.specs.Tree.{Nodes}
use Rattle.teco_step.specs.Step.{End}
use Rattle.teco_exec.specs.World.{World, WorldAndEnd}
use Rattle.teco_exec.specs.Meaning.{then_rest, after_turn, after_part, run_step, run_iteration, run_conditional, meaning}
use Rattle.teco_exec.specs.Meaning as meant
use Rattle.teco_exec.specs.StringMeaning.{code_of}
use Rattle.teco_scan.specs.Lists.{Close, Past, past, Listed, behind, second, behind_block, list_at, nodes}
use Rattle.teco_exec.specs.CursorMoves.{Frame, Cursor, CursorOrError, innermost_kind, inside_iteration}
use Rattle.teco_exec.specs.Machine.{Caller, Final}
use Rattle.teco_core.specs.declared.profile.Profile.{Profile}

module _ (profile : Profile) where
  -- the list in these blocks from the bytes on
  abbrev pub here : List Frame → List ℕ → Listed
  here bs left = list_at profile (innermost_kind bs) (length bs) left

  -- the whole list of the innermost block
  abbrev pub whole : List ℕ → List Frame → Nodes
  whole text [] = nodes profile text
  whole text (b ∷ bs) = (here (b ∷ bs) b.start).0

  unfoldable pub block_end : Kind → Option ℕ → Nodes → ℕ → World → End → WorldAndEnd
  block_end Iter left nodes depth w e = after_turn meaning left nodes depth w e
  block_end Then left nodes depth w e = after_part w e
  block_end Else left nodes depth w e = after_part w e

  -- the list in these blocks after a node
  abbrev pub after : List Frame → Past → Listed
  after bs x = behind (list_at profile) (innermost_kind bs) (length bs) x

  -- what follows a block that begins here
  abbrev pub after_iteration : List Frame → List ℕ → Listed
  after_iteration bs start = after bs (past (list_at profile (Some Iter) (suc (length bs)) start).1)

  abbrev pub after_conditional : List Frame → List ℕ → Listed
  after_conditional bs start = after bs (past (second (list_at profile) (suc (length bs)) (list_at profile (Some Then) (suc (length bs)) start).1).1)

  -- what follows a block of this kind whose list closes so, in the list around it
  abbrev pub follows : Kind → List Frame → Close → Listed
  follows k outer c = after outer (behind_block (list_at profile) k (suc (length outer)) c)

  -- what follows where the innermost list, which closes so, has ended so
  unfoldable pub around : List ℕ → ℕ → List Frame → Close → World → End → WorldAndEnd
  around text depth [] c w e = (w, e)
  around text depth (b ∷ bs) c w e =
      let q : WorldAndEnd = block_end b.kind b.left (whole text (b ∷ bs)) depth w e in
      let l : Listed = follows b.kind bs c in
      let r : WorldAndEnd = then_rest meaning (whole text bs) l.0 depth (inside_iteration bs) q.0 q.1 in
      around text depth bs l.1 r.0 r.1

  -- where a node has ended so, before this rest of its list
  abbrev pub goes_on : List ℕ → ℕ → List Frame → Listed → World → End → WorldAndEnd
  goes_on text depth bs l w e = let r : WorldAndEnd = then_rest meaning (whole text bs) l.0 depth (inside_iteration bs) w e in around text depth bs l.1 r.0 r.1

-- the end of the whole run
abbrev pub finals : World → End → Final
finals w e = record { state = w.state; typed = w.typed; load = w.load; fuel = w.fuel; code = code_of e }

module _ (profile : Profile) where
  -- what the callers make of the end of a text
  unfoldable pub under : List Caller → World → End → Final
  under [] w e = finals w e
  under (b ∷ bs) w e = let q : WorldAndEnd = meant.after_call w e in let r : WorldAndEnd = goes_on profile b.text (length bs) b.blocks (here profile b.blocks b.left) q.0 q.1 in under bs r.0 r.1

  -- what is after the blocks is the same from their beginnings on
  unfoldable pub Fits : List Frame → Close → Type 0
  Fits [] c = Unit {0}
  Fits (b ∷ bs) c = ((here profile (b ∷ bs) b.start).1 ≡ c) × Fits bs (follows profile b.kind bs c).1

  abbrev pub FitsAt : Cursor → Type 0
  FitsAt c = Fits c.blocks (here profile c.blocks c.left).1

  unfoldable pub FitsUnder : List Caller → Type 0
  FitsUnder [] = Unit {0}
  FitsUnder (b ∷ bs) = Fits b.blocks (here profile b.blocks b.left).1 × FitsUnder bs

  abbrev pub FitsMoved : CursorOrError → Type 0
  FitsMoved (Ok c) = FitsAt c
  FitsMoved (Err e) = Unit {0}
