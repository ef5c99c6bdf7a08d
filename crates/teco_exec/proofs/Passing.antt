-- What a cursor passes, told once: the list from there on, what comes, and what stays the same.
use Rattle.std.proofs.Common.{◌≡◌, ℕ, suc, ◌<◌, Bool, true, false, List, [], ◌∷◌, length, Option, Some, Ok, Err, refl, sym, subst, arith, ◌==◌, if◌then◌else◌}
use Rattle.teco_core.specs.Arguments.{Arguments, no_arguments}
use Rattle.teco_core.specs.declared.code.Code.{Code}
use Rattle.teco_core.specs.declared.code.Code.TheVariants.{Bni, Ill, Pdo, Utc}
use Rattle.teco_scan.specs.declared.blocks.Kind.{Kind}
use Rattle.teco_scan.specs.declared.blocks.Kind.TheVariants.{Iter, Then, Else}
use Rattle.teco_scan.specs.declared.command.BlockMark.{BlockMark}
use Rattle.teco_scan.specs.declared.command.BlockMark.TheVariants.{Iterate, EndIteration, Otherwise, EndTest}
use Rattle.teco_scan.specs.declared.command.Modifiers.{Modifiers}
use Rattle.teco_scan.specs.declared.command.Test.{Test}
use Rattle.teco_scan.specs.ListLaws.{BlockLaws, Within}
use Rattle.teco_scan.specs.Lists.{Close, closed, broken, past, Listed, wrong, put, behind_block, iter_at, cond_at, at_mark, at_instruction, at_scan, list_at}
use Rattle.teco_core.specs.declared.profile.Profile.{Profile}
use Rattle.teco_scan.specs.Scan.{Item, Instruction, TokenMeaning, Scanned, found, ended, fault, scan}
use Rattle.teco_scan.specs.Scan as token
use Rattle.teco_scan.specs.Tree.{is_fault, done, item, escape, tag}
use Rattle.teco_exec.specs.CursorMoves.{Frame, Cursor, BlockStep, iterates, ends_turn, decides, Coming, passed_to, step_comes, block_comes, end_comes, fault_comes, innermost_kind, after_skip, passed_or_fault, after_block_end, pass_mark, pass_instruction, pass_scanned, pass, CursorOrError, inside_iteration, pass_opening, after_counted_start, after_iteration_start, next_turn_or_end, inside_second_part, inside_chosen_part, after_leaving_block, after_leaving_iteration, after_tag_or, after_jump, after_block_step}
use Rattle.teco_exec.proofs.Denoting.{here, after, after_iteration, after_conditional, Fits, FitsAt}
use Rattle.teco_exec.specs.CursorMoves as machine

abbrev pub at : Arguments → List ℕ → List Frame → Cursor
at a left blocks = record { args = a; left = left; blocks = blocks }

-- a part of a conditional
abbrev pub IsPart : Kind → Type 0
IsPart Iter = ⊥
IsPart k = Unit {0}

module _ (profile : Profile) where
  -- From a cursor, whose list from there on is this, comes this. What is passed leaves fewer bytes, and what breaks is a text's own fault.
  pub data Passes : Cursor → Listed → Coming → Type 0 where
    text_ends : (a : Arguments) (left : List ℕ) → Passes (at a left []) (done, broken Utc) end_comes
    faults : (c : Cursor) (e : Code) → is_fault e ≡ true → Passes c (wrong e) (fault_comes e)
    item_comes : (c : Cursor) (m : Modifiers) (i : Item) (bs : List ℕ) → Passes c (put (item m i) (here profile c.blocks bs)) (step_comes m i (record c { left = bs }))
    tag_passes : (c : Cursor) (name bs : List ℕ) → length bs < length c.left → Passes c (put (tag name) (here profile c.blocks bs)) (passed_to (record c { left = bs }))
    escape_passes : (c : Cursor) (bs : List ℕ) → length bs < length c.left → Passes c (put escape (here profile c.blocks bs)) (passed_to (record c { args = no_arguments; left = bs }))
    iteration_opens : (c : Cursor) (bs : List ℕ) → Passes c (iter_at (list_at profile) (innermost_kind c.blocks) (length c.blocks) (list_at profile (Some Iter) (suc (length c.blocks)) bs)) (block_comes iterates bs)
    conditional_opens : (c : Cursor) (t : Test) (bs : List ℕ) → Passes c (cond_at (list_at profile) (innermost_kind c.blocks) (length c.blocks) t (list_at profile (Some Then) (suc (length c.blocks)) bs)) (block_comes (decides t) bs)
    turn_ends : (a : Arguments) (left start : List ℕ) (turns : Option ℕ) (outer : List Frame) (bs : List ℕ) → Passes (at a left (record { kind = Iter; start = start; left = turns } ∷ outer)) (done, closed false bs) (block_comes ends_turn bs)
    part_ends : (a : Arguments) (left : List ℕ) (b : Frame) (outer : List Frame) (l : Close) (bs : List ℕ) → IsPart b.kind → behind_block (list_at profile) b.kind (suc (length outer)) l ≡ Ok bs → length bs < length left
        → Passes (at a left (b ∷ outer)) (done, l) (passed_to (after_block_end bs outer))
    part_faults : (a : Arguments) (left : List ℕ) (b : Frame) (outer : List Frame) (l : Close) (e : Code) → IsPart b.kind → behind_block (list_at profile) b.kind (suc (length outer)) l ≡ Err e → is_fault e ≡ true
        → Passes (at a left (b ∷ outer)) (done, l) (fault_comes e)

  opened : (b : Bool) (c : Cursor) (l : Listed) (o : BlockStep) (bs : List ℕ) → Passes c l (block_comes o bs) → Passes c (if b then wrong Pdo else l) (if b then fault_comes Pdo else block_comes o bs)
  opened true c l o bs h = faults c Pdo refl
  opened false c l o bs h = h

  module _ (laws : BlockLaws profile) (a : Arguments) (left : List ℕ) where
    -- a first part ends, and the second, whose list closes so, is passed over
    divided : (b : Frame) (outer : List Frame) (bs : List ℕ) (l : Close) → length bs < length left → IsPart b.kind → behind_block (list_at profile) b.kind (suc (length outer)) (closed true bs) ≡ past l
        → Within (length bs) l → ((e : Code) → l ≡ broken e → is_fault e ≡ true) → Passes (at a left (b ∷ outer)) (done, closed true bs) (passed_or_fault (after_skip (past l) (after_block_end bs outer)))
    divided b outer bs (closed d more) lt part is within faulty = part_ends a left b outer (closed true bs) more part is (omega arith)
    divided b outer bs (broken e) lt part is within faulty = part_faults a left b outer (closed true bs) e part is (faulty e refl)

    marked : (m : BlockMark) (bs : List ℕ) (blocks : List Frame) → length bs < length left → Passes (at a left blocks) (at_mark (list_at profile) m bs (innermost_kind blocks) (length blocks)) (pass_mark profile m bs (at a left blocks))
    marked Iterate bs blocks lt = opened (length blocks == 64) (at a left blocks) _ iterates bs (iteration_opens (at a left blocks) bs)
    marked EndIteration bs [] lt = faults _ Bni refl
    marked m bs [] lt = faults _ Ill refl
    marked m bs (b ∷ outer) lt = by m b.kind
      where
        by : (m : BlockMark) (k : Kind) → (let f : Frame = record b { kind = k } in Passes (at a left (f ∷ outer)) (at_mark (list_at profile) m bs (Some k) (suc (length outer))) (pass_mark profile m bs (at a left (f ∷ outer))))
        by Iterate k = let c : Cursor = at a left (record b { kind = k } ∷ outer) in opened (suc (length outer) == 64) c _ iterates bs (iteration_opens c bs)
        by EndIteration Iter = turn_ends a left b.start b.left outer bs
        by EndIteration k = faults _ Bni refl
        by Otherwise Then = let d : ℕ = suc (length outer) in divided (record b { kind = Then }) outer bs (list_at profile (Some Else) d bs).1 lt tt refl (laws.list_shortens (Some Else) d bs) (laws.list_faults (Some Else) d bs)
        by EndTest Then = part_ends a left (record b { kind = Then }) outer (closed false bs) bs tt refl lt
        by EndTest Else = part_ends a left (record b { kind = Else }) outer (closed false bs) bs tt refl lt
        by m k = faults _ Ill refl

    scanned : (s : Scanned) (blocks : List Frame) → ((t : TokenMeaning) (bs : List ℕ) → s ≡ found t bs → length bs < length left) → ((e : Code) → s ≡ fault e → is_fault e ≡ true)
        → Passes (at a left blocks) (at_scan (list_at profile) s (innermost_kind blocks) (length blocks)) (pass_scanned profile s (at a left blocks))
    scanned ended [] lt f = text_ends a left
    scanned ended (b ∷ bs) lt f = faults _ Utc refl
    scanned (fault e) blocks lt f = faults _ e (f e refl)
    scanned (found t bs) blocks lt f = by t.instruction (lt t bs refl)
      where
        by : (i : Instruction) → length bs < length left → Passes (at a left blocks) (at_instruction (list_at profile) i t.modifiers bs (innermost_kind blocks) (length blocks)) (pass_instruction profile t.modifiers i bs (at a left blocks))
        by (token.step i) lt = item_comes (at a left blocks) t.modifiers i bs
        by (token.mark m) lt = marked m bs blocks lt
        by (token.decide t) lt = opened (length blocks == 64) (at a left blocks) _ (decides t) bs (conditional_opens (at a left blocks) t bs)
        by (token.tag name) lt = tag_passes (at a left blocks) name bs lt
        by token.escape lt = escape_passes (at a left blocks) bs lt

  pub passes : BlockLaws profile → (c : Cursor) → Passes c (here profile c.blocks c.left) (pass profile c)
  passes laws c = subst (λ (l : Listed). Passes c l (pass profile c)) (sym (laws.list_unrolls (innermost_kind c.blocks) (length c.blocks) c.left)) (scanned laws c.args c.left (scan profile c.left) c.blocks (laws.token_shortens c.left) (laws.scan_faults c.left))

  -- The innermost block is an iteration, whose list closes so.
  pub data TurnEnds (bs : List ℕ) : List Frame → Type 0 where
    turn : (start : List ℕ) (left : Option ℕ) (outer : List Frame) → Fits profile (record { kind = Iter; start = start; left = left } ∷ outer) (closed false bs) → TurnEnds bs (record { kind = Iter; start = start; left = left } ∷ outer)

  -- the blocks around a block step, and what closes the innermost list
  abbrev pub FitsStep : BlockStep → List ℕ → List Frame → Type 0
  FitsStep machine.iterates bs blocks = Fits profile blocks (after_iteration profile blocks bs).1
  FitsStep (machine.decides t) bs blocks = Fits profile blocks (after_conditional profile blocks bs).1
  FitsStep machine.ends_turn bs blocks = TurnEnds bs blocks

  abbrev pub FitsComing : Cursor → Coming → Type 0
  FitsComing c (passed_to d) = FitsAt profile d
  FitsComing c (step_comes m i d) = FitsAt profile d
  FitsComing c (block_comes b bs) = FitsStep b bs c.blocks
  FitsComing c end_comes = Unit {0}
  FitsComing c (fault_comes e) = Unit {0}

  keeps : {c : Cursor} {l : Listed} {k : Coming} → Passes c l k → Fits profile c.blocks l.1 → FitsComing c k
  unfolding Fits
  keeps (item_comes c m i bs) f = f
  keeps (tag_passes c name bs lt) f = f
  keeps (escape_passes c bs lt) f = f
  keeps (iteration_opens c bs) f = f
  keeps (conditional_opens c t bs) f = f
  keeps (turn_ends a left start turns outer bs) f = turn start turns outer f
  keeps (part_ends a left b outer l bs part is lt) f = subst (λ x. Fits profile outer (after profile outer x).1) is f.1
  keeps p f = tt

  pub pass_keeps : BlockLaws profile → (c : Cursor) → FitsAt profile c → FitsComing c (pass profile c)
  pass_keeps laws c f = keeps (passes laws c) f

-- What is passed has a byte.
abbrev pub Shorter : ℕ → Coming → Type 0
Shorter n (passed_to d) = length d.left < n
Shorter n k = Unit {0}

module _ (profile : Profile) where
  shorter : {c : Cursor} {l : Listed} {k : Coming} → Passes profile c l k → Shorter (length c.left) k
  shorter (tag_passes c name bs lt) = lt
  shorter (escape_passes c bs lt) = lt
  shorter (part_ends a left b outer l bs part is lt) = lt
  shorter p = tt

  pub pass_short : BlockLaws profile → (c : Cursor) → Shorter (length c.left) (pass profile c)
  pass_short laws c = shorter (passes profile laws c)
