-- Where a text is, and its moves, in the profile that it is read in: what uses no step, steps of blocks, jumps and leaving.
use Rattle.std.specs.Prelude.{Bool, true, false, ℕ, zero, suc, List, [], ◌∷◌, length, Option, Some, None, ◌==◌, ℤ, Result, Ok, Err, if◌then◌else◌}
use Rattle.teco_core.specs.declared.code.Code.{Code}
use Rattle.teco_core.specs.declared.code.Code.TheVariants as code
use Rattle.teco_core.specs.declared.arguments.Taken.{Taken}
use Rattle.teco_core.specs.declared.arguments.Taken.TheVariants as taken
use Rattle.teco_core.specs.declared.profile.Profile.{Profile}
use Rattle.teco_core.specs.Arguments.{Arguments, no_arguments, taken_from}
use Rattle.teco_core.specs.declared.limits.TheConstants.{BLOCK_LIMIT}
use Rattle.teco_scan.specs.declared.command.Modifiers.{Modifiers}
use Rattle.teco_scan.specs.declared.command.Test.{Test}
use Rattle.teco_scan.specs.declared.command.BlockMark.{BlockMark}
use Rattle.teco_scan.specs.declared.command.BlockMark.TheVariants.{Iterate, EndIteration, Otherwise, EndTest}
use Rattle.teco_scan.specs.declared.blocks.Kind.{Kind}
use Rattle.teco_scan.specs.declared.blocks.Kind.TheVariants.{Iter, Then, Else}
use Rattle.teco_scan.specs.Scan.{Item, Instruction, Scanned, found, ended, fault, scan}
use Rattle.teco_scan.specs.Scan as token
use Rattle.teco_step.specs.Step.{takes_one}
use Rattle.teco_exec.specs.Test.{holds}
use Rattle.teco_exec.specs.Meaning.{is_plain_leave, turns_of}
use Rattle.teco_scan.specs.Lists.{Close, closed, broken, Past, past, behind_block, list_at, tag_at}

-- An open block: its kind, the bytes from its beginning on, and the turns left after the present one (none:
-- without end).
pub record Frame : Type 0 where
  pub kind : Kind
  pub start : List ℕ
  pub left : Option ℕ

-- Where a text is: the arguments, the bytes that are left, and the open blocks, the innermost first.
pub record Cursor : Type 0 where
  pub args : Arguments
  pub left : List ℕ
  pub blocks : List Frame

-- the kind of the innermost block, if one is open
abbrev pub innermost_kind : List Frame → Option Kind
innermost_kind [] = None
innermost_kind (b ∷ bs) = Some b.kind

-- an iteration is open
unfoldable pub inside_iteration : List Frame → Bool
inside_iteration [] = false
inside_iteration (b ∷ bs) =
    elim b.kind [ Iter ↦ true | Then ↦ inside_iteration bs | Else ↦ inside_iteration bs ]

-- whether `;` without modifiers comes next
abbrev pub leave_is_next : Scanned → Bool
leave_is_next (found t bs) = elim t.instruction [ token.step i ↦ is_plain_leave t.modifiers i | _ ↦ false ]
leave_is_next s = false

-- What a move gives: the cursor from which the text goes on, or the error by which the run is over.
abbrev pub CursorOrError : Type 0
CursorOrError = Result Cursor Code

-- inside a block that opens here
abbrev pub inside_block : Kind → Option ℕ → List ℕ → Cursor → Cursor
inside_block k turns bs c = record c {
  left = bs;
  blocks = record { kind = k; start = bs; left = turns } ∷ c.blocks;
}

-- after what is passed over
abbrev pub after_skip : Past → Cursor → CursorOrError
after_skip (Ok bs) c = Ok (record c { left = bs })
after_skip (Err e) c = Err e

-- the steps that no item makes: an iteration or a conditional opens, or a turn ends
pub data BlockStep : Type 0 where
  iterates : BlockStep
  ends_turn : BlockStep
  decides : Test → BlockStep

-- What comes next in a text.
pub data Coming : Type 0 where
  passed_to : Cursor → Coming  -- something was passed that uses no step
  step_comes : Modifiers → Item → Cursor → Coming  -- a step of this token; the cursor is after it
  block_comes : BlockStep → List ℕ → Coming  -- such a step; these bytes are after its token
  end_comes : Coming  -- the text is over
  fault_comes : Code → Coming

-- what comes where a token that uses no step was passed so
abbrev pub passed_or_fault : CursorOrError → Coming
passed_or_fault (Ok c) = passed_to c
passed_or_fault (Err e) = fault_comes e

-- A block opens here, unless BLOCK_LIMIT are open.
abbrev pub pass_opening : BlockStep → List ℕ → Cursor → Coming
pass_opening b bs c = if length c.blocks == BLOCK_LIMIT then fault_comes code.Pdo else block_comes b bs

-- The text ends here: in no block, or else it is UTC.
abbrev pub pass_text_end : List Frame → Coming
pass_text_end [] = end_comes
pass_text_end (b ∷ bs) = fault_comes code.Utc

-- after the end of a block: the arguments are dropped, and the blocks around it are open
abbrev pub after_block_end : List ℕ → List Frame → Cursor
after_block_end bs outer = record { args = no_arguments; left = bs; blocks = outer }

-- At `>`: a turn ends here, if the innermost block is an iteration.
abbrev pub pass_turn_end : List ℕ → List Frame → Coming
pass_turn_end bs [] = fault_comes code.Bni
pass_turn_end bs (b ∷ outer) = elim b.kind [ Iter ↦ block_comes ends_turn bs | _ ↦ fault_comes code.Bni ]

-- At the `|` after a first part that was run: the second part is passed over.
abbrev pub pass_divider : Profile → List ℕ → List Frame → Coming
pass_divider p bs [] = fault_comes code.Ill
pass_divider p bs (b ∷ outer) =
    elim b.kind [
      | Then ↦ passed_or_fault
          (after_skip (past (list_at p (Some Else) (suc (length outer)) bs).1) (after_block_end bs outer))
      | _ ↦ fault_comes code.Ill
    ]

-- At the `'` after a part that was run.
abbrev pub pass_part_end : List ℕ → List Frame → Coming
pass_part_end bs [] = fault_comes code.Ill
pass_part_end bs (b ∷ outer) =
    elim b.kind [ Iter ↦ fault_comes code.Ill | _ ↦ passed_to (after_block_end bs outer) ]

-- a mark, an instruction, and what was read: each is passed, or tells what comes
abbrev pub pass_mark : Profile → BlockMark → List ℕ → Cursor → Coming
pass_mark p Iterate bs c = pass_opening iterates bs c
pass_mark p EndIteration bs c = pass_turn_end bs c.blocks
pass_mark p Otherwise bs c = pass_divider p bs c.blocks
pass_mark p EndTest bs c = pass_part_end bs c.blocks

abbrev pub pass_instruction : Profile → Modifiers → Instruction → List ℕ → Cursor → Coming
pass_instruction p m (token.step i) bs c = step_comes m i (record c { left = bs })
pass_instruction p m (token.mark b) bs c = pass_mark p b bs c
pass_instruction p m (token.decide t) bs c = pass_opening (decides t) bs c
pass_instruction p m (token.tag name) bs c = passed_to (record c { left = bs })
pass_instruction p m token.escape bs c = passed_to (record c { args = no_arguments; left = bs })

abbrev pub pass_scanned : Profile → Scanned → Cursor → Coming
pass_scanned p ended c = pass_text_end c.blocks
pass_scanned p (fault e) c = fault_comes e
pass_scanned p (found t bs) c = pass_instruction p t.modifiers t.instruction bs c

-- one token that uses no step is passed, or is what comes
abbrev pub pass : Profile → Cursor → Coming
pass p c = pass_scanned p (scan p c.left) c

-- after the start of an iteration of so many turns: inside its block, or after it where there are none
abbrev pub after_counted_start : Profile → ℕ → List ℕ → Cursor → CursorOrError
after_counted_start p zero bs c = after_skip (past (list_at p (Some Iter) (suc (length c.blocks)) bs).1) c
after_counted_start p (suc n) bs c = Ok (inside_block Iter (Some n) bs c)

-- An iteration starts: without end where it takes nothing, and not at all where its number is at most 0.
abbrev pub after_iteration_start : Profile → Result Taken Code → List ℕ → Cursor → CursorOrError
after_iteration_start p (Ok taken.None) bs c = Ok (inside_block Iter None bs (record c { args = no_arguments }))
after_iteration_start p (Ok (taken.One n)) bs c =
    after_counted_start p (turns_of n) bs (record c { args = no_arguments })
after_iteration_start p (Ok (taken.Two m n)) bs c = Err code.Arg
after_iteration_start p (Err e) bs c = Err e

-- the beginning of the next turn, or the end of the iteration where no turn is left
abbrev pub next_turn_or_end : Option ℕ → Frame → List Frame → List ℕ → Cursor
next_turn_or_end None b outer bs = record { args = no_arguments; left = b.start; blocks = b ∷ outer }
next_turn_or_end (Some zero) b outer bs = after_block_end bs outer
next_turn_or_end (Some (suc n)) b outer bs = record {
  args = no_arguments;
  left = b.start;
  blocks = record b { left = Some n } ∷ outer;
}

-- A turn ends: the next one begins, or the iteration is over.
abbrev pub after_turn_end : List ℕ → Cursor → CursorOrError
after_turn_end bs c =
    elim c.blocks [
      | [] ↦ Err code.Bni
      | b ∷ outer ↦ elim b.kind
          [ Iter ↦ Ok (next_turn_or_end b.left b outer bs) | _ ↦ Err code.Bni ]
    ]

-- inside the second part of a conditional, or after the conditional where it has none
abbrev pub inside_second_part : Close → Cursor → CursorOrError
inside_second_part (closed true bs) c = Ok (inside_block Else None bs c)
inside_second_part (closed false bs) c = Ok (record c { left = bs })
inside_second_part (broken e) c = Err e

-- The first part, which the test does not choose, is passed over.
abbrev pub after_first_part : Profile → List ℕ → Cursor → CursorOrError
after_first_part p bs c = inside_second_part (list_at p (Some Then) (suc (length c.blocks)) bs).1 c

-- A conditional starts: the part that its test chooses is run.
abbrev pub inside_chosen_part : Profile → Test → Result ℤ Code → List ℕ → Cursor → CursorOrError
inside_chosen_part p t (Ok n) bs c = let d : Cursor = record c { args = no_arguments } in
    if holds t n then Ok (inside_block Then None bs d) else after_first_part p bs d
inside_chosen_part p t (Err e) bs c = Err e

-- after a step of a block
abbrev pub after_block_step : Profile → BlockStep → List ℕ → Cursor → CursorOrError
after_block_step p iterates bs c = after_iteration_start p (taken_from c.args) bs c
after_block_step p ends_turn bs c = after_turn_end bs c
after_block_step p (decides t) bs c = inside_chosen_part p t (takes_one code.Naq c.args) bs c

-- One block is left: an iteration is the last one, and what is around a conditional is left too.
abbrev pub after_leaving_block : (Cursor → CursorOrError) → Kind → Arguments → List Frame
    → Past → CursorOrError
after_leaving_block on_ Iter a outer (Ok bs) = Ok (record { args = a; left = bs; blocks = outer })
after_leaving_block on_ k a outer (Ok bs) = on_ (record { args = a; left = bs; blocks = outer })
after_leaving_block on_ k a outer (Err e) = Err e

-- The innermost iteration is left; SNI where none is open.
unfoldable pub after_leaving_iteration : Profile → List Frame → Arguments → List ℕ → CursorOrError
after_leaving_iteration p [] a bs = Err code.Sni
after_leaving_iteration p (b ∷ outer) a bs =
    after_leaving_block (λ c. after_leaving_iteration p outer c.args c.left) b.kind a outer
    (behind_block (list_at p) b.kind (suc (length outer)) (list_at p (Some b.kind) (suc (length outer)) bs).1)

-- after a tag that was found, or else this
abbrev pub after_tag_or : Option (List ℕ) → Arguments → List Frame → CursorOrError → CursorOrError
after_tag_or (Some bs) a blocks on_ = Ok (record { args = a; left = bs; blocks = blocks })
after_tag_or None a blocks on_ = on_

-- A jump goes on after the first such tag directly in the innermost list that has one; TAG where none has.
unfoldable pub after_jump : Profile → List ℕ → List ℕ → List Frame → Arguments → CursorOrError
after_jump p name text [] a = after_tag_or (tag_at p name 0 text) a [] (Err code.Tag)
after_jump p name text (b ∷ outer) a =
    after_tag_or (tag_at p name (suc (length outer)) b.start) a (b ∷ outer) (after_jump p name text outer a)
