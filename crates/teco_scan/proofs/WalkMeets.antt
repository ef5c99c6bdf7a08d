-- What a walk by the rule of spelling meets in a list: its close, or its first fault.
use Rattle.std.proofs.Common.{◌≡◌, ℕ, zero, suc, ◌<◌, ◌≤◌, Bool, true, false, List, ◌∷◌, length, Option, Some, None, cond as choose, refl, sym, subst, arith}
use Rattle.std.specs.Prelude.{◌==◌}
use Rattle.teco_core.specs.declared.code.Code.{Code}
use Rattle.teco_core.specs.declared.code.Code.TheVariants.{Pdo}
use Rattle.teco_scan.specs.declared.breaks.ListFault.{ListFault}
use Rattle.teco_scan.specs.declared.command.BlockMark.TheVariants.{Iterate, EndIteration, Otherwise, EndTest}
use Rattle.teco_scan.specs.declared.command.Modifiers.{Modifiers}
use Rattle.teco_scan.specs.declared.blocks.Kind.{Kind}
use Rattle.teco_scan.specs.declared.blocks.Kind.TheVariants.{Iter, Then, Else}
use Rattle.teco_scan.specs.Breaks.{by_spelling}
use Rattle.teco_scan.specs.Lists.{Close, closed, broken, Past, past, Listed, wrong, behind, behind_block, second, list_at}
use Rattle.teco_scan.specs.Lists as lists
use Rattle.teco_scan.specs.ListLaws.{Within}
use Rattle.teco_core.specs.declared.profile.Profile.{Profile}
use Rattle.teco_scan.specs.Scan.{Instruction, Scanned, TokenMeaning, found, ended, fault, scan, after_fillers}
use Rattle.teco_scan.specs.Scan as token
use Rattle.teco_scan.specs.Walk.{OpenList, Walker, too_deep, place, in_block, out_of, at_mark, at_instruction, at_scan, walk}
use Rattle.teco_scan.proofs.ListUnrolls.{list_step, list_short}
use Rattle.teco_scan.proofs.TokenShortens.{scan_short}
use Rattle.teco_scan.proofs.WalkUnrolls.{unrolls}

-- a list of a block
abbrev pub block_list : Kind → ℕ → ℕ → OpenList
block_list kind opening start = record { kind = Some kind; opening = opening; start = start }

module _ (profile : Profile) (text : List ℕ) where
  abbrev pub go : Walker ListFault
  go o os bs = walk profile by_spelling text o os bs

  -- where the walk goes on after a list of a block that closes so
  abbrev pub after_close : Kind → Bool → ℕ → List OpenList → List ℕ → Option ListFault
  after_close Then true opening os rest = go (block_list Else opening (place text rest)) os rest
  after_close Then false opening os rest = out_of go os rest
  after_close Iter divided opening os rest = out_of go os rest
  after_close Else divided opening os rest = out_of go os rest

  -- It comes to a fault by this code, in the text.
  pub record Comes (r : Option ListFault) (code : Code) : Type 0 where
    pub there : ListFault
    pub is : r ≡ Some there
    pub by : there.code ≡ code
    pub inside : there.at ≤ length text

  abbrev pub Meets : Kind → ℕ → List OpenList → Option ListFault → Close → Type 0
  Meets k opening os r (closed divided rest) = r ≡ after_close k divided opening os rest
  Meets k opening os r (broken code) = Comes r code

  here : (at : ℕ) (code : Code) → at ≤ length text → Comes (Some (record { at = at; opened = None; code = code })) code
  here at code h = record { there = record { at = at; opened = None; code = code }; is = refl; by = refl; inside = h }

  -- of shorter bytes
  record Below (n : ℕ) : Type 0 where
    meets : (k : Kind) (opening start : ℕ) (os : List OpenList) (bs : List ℕ) → length bs < n → Meets k opening os (go (block_list k opening start) os bs) (list_at profile (Some k) (length os) bs).1

  module _ (n : ℕ) (ih : Below n) (k : Kind) (opening start : ℕ) (os : List OpenList) where
    abbrev me : OpenList
    me = block_list k opening start

    -- on in the list after a list that a block in it ends with
    on : (r : Option ListFault) (rest : List ℕ) → length rest < n → r ≡ go me os rest → Meets k opening os r (list_at profile (Some k) (length os) rest).1
    on r rest lt e = subst (λ x. Meets k opening os x (list_at profile (Some k) (length os) rest).1) (sym e) (ih.meets k opening start os rest lt)

    after_iteration : (at : ℕ) (r : Option ListFault) (c : Close) → Within n c → Meets Iter at (me ∷ os) r c → Meets k opening os r (behind (list_at profile) (Some k) (length os) (past c)).1
    after_iteration at r (closed divided rest) lt e = on r rest lt e
    after_iteration at r (broken code) lt h = h

    after_second : (at : ℕ) (r : Option ListFault) (c : Close) → Within n c → Meets Else at (me ∷ os) r c → Meets k opening os r (behind (list_at profile) (Some k) (length os) (past c)).1
    after_second at r (closed divided rest) lt e = on r rest lt e
    after_second at r (broken code) lt h = h

    within_less : (m : ℕ) (c : Close) → m < n → Within m c → Within n c
    within_less m (closed divided rest) lt h = omega (arith, lt, h)
    within_less m (broken code) lt h = tt

    after_first : (at : ℕ) (r : Option ListFault) (c : Close) → Within n c → Meets Then at (me ∷ os) r c → Meets k opening os r (behind (list_at profile) (Some k) (length os) (past (second (list_at profile) (length (me ∷ os)) c).1)).1
    after_first at r (closed true rest) lt e =
        after_second at r (list_at profile (Some Else) (length (me ∷ os)) rest).1
        (within_less (length rest) (list_at profile (Some Else) (length (me ∷ os)) rest).1 lt (list_short profile (Some Else) (length (me ∷ os)) rest))
        (subst (λ x. Meets Else at (me ∷ os) x (list_at profile (Some Else) (length (me ∷ os)) rest).1) (sym e) (ih.meets Else at (place text rest) (me ∷ os) rest lt))
    after_first at r (closed false rest) lt e = on r rest lt e
    after_first at r (broken code) lt h = h

    at_block : (deep : Bool) (at : ℕ) (r : Option ListFault) (l : Listed) → at ≤ length text → Meets k opening os r l.1
        → Meets k opening os (choose deep (Some (by_spelling.breaks at too_deep me)) r) (choose deep (wrong Pdo) l).1
    at_block true at r l h meets = here at Pdo h
    at_block false at r l h meets = meets

    instruction_meets : (i : Instruction) (m : Modifiers) (at : ℕ) (more : List ℕ) → at ≤ length text → length more < n
        → Meets k opening os (at_instruction by_spelling go text i at me os more) (lists.at_instruction (list_at profile) i m more (Some k) (length os)).1
    instruction_meets (token.step i) m at more h lt = ih.meets k opening start os more lt
    instruction_meets (token.tag name) m at more h lt = ih.meets k opening start os more lt
    instruction_meets token.escape m at more h lt = ih.meets k opening start os more lt
    instruction_meets (token.decide t) m at more h lt =
        at_block (length os == 64) at (go (block_list Then at (place text more)) (me ∷ os) more) (lists.cond_at (list_at profile) (Some k) (length os) t (list_at profile (Some Then) (suc (length os)) more)) h
        (after_first at (go (block_list Then at (place text more)) (me ∷ os) more) (list_at profile (Some Then) (length (me ∷ os)) more).1
        (within_less (length more) (list_at profile (Some Then) (length (me ∷ os)) more).1 lt (list_short profile (Some Then) (length (me ∷ os)) more))
        (ih.meets Then at (place text more) (me ∷ os) more lt))
    instruction_meets (token.mark Iterate) m at more h lt =
        at_block (length os == 64) at (go (block_list Iter at (place text more)) (me ∷ os) more) (lists.iter_at (list_at profile) (Some k) (length os) (list_at profile (Some Iter) (suc (length os)) more)) h
        (after_iteration at (go (block_list Iter at (place text more)) (me ∷ os) more) (list_at profile (Some Iter) (length (me ∷ os)) more).1
        (within_less (length more) (list_at profile (Some Iter) (length (me ∷ os)) more).1 lt (list_short profile (Some Iter) (length (me ∷ os)) more))
        (ih.meets Iter at (place text more) (me ∷ os) more lt))
    instruction_meets (token.mark EndIteration) m at more h lt = ends k
      where
        ends : (x : Kind) → Meets x opening os (at_mark by_spelling go text EndIteration (Some x) at (block_list x opening start) os more) (lists.at_mark (list_at profile) EndIteration more (Some x) (length os)).1
        ends Iter = refl
        ends Then = here at _ h
        ends Else = here at _ h
    instruction_meets (token.mark Otherwise) m at more h lt = divides k
      where
        divides : (x : Kind) → Meets x opening os (at_mark by_spelling go text Otherwise (Some x) at (block_list x opening start) os more) (lists.at_mark (list_at profile) Otherwise more (Some x) (length os)).1
        divides Iter = here at _ h
        divides Then = refl
        divides Else = here at _ h
    instruction_meets (token.mark EndTest) m at more h lt = ends k
      where
        ends : (x : Kind) → Meets x opening os (at_mark by_spelling go text EndTest (Some x) at (block_list x opening start) os more) (lists.at_mark (list_at profile) EndTest more (Some x) (length os)).1
        ends Iter = here at _ h
        ends Then = refl
        ends Else = refl

    scan_meets : (s : Scanned) (at : ℕ) → at ≤ length text → ((t : TokenMeaning) (more : List ℕ) → s ≡ found t more → length more < n)
        → Meets k opening os (at_scan by_spelling go text s at me os) (lists.at_scan (list_at profile) s (Some k) (length os)).1
    scan_meets (found t more) at h lt = instruction_meets t.instruction t.modifiers at more h (lt t more refl)
    scan_meets ended at h lt = record { there = by_spelling.breaks at Rattle.teco_scan.specs.Walk.unended me; is = refl; by = refl; inside = h }
    scan_meets (fault code) at h lt = here at code h

  place_inside : (rest : List ℕ) → place text rest ≤ length text
  place_inside rest = omega arith

  below : (n : ℕ) → Below n
  below zero = record { meets = λ k opening start os bs lt. absurd (omega (arith, lt)) }
  below (suc n) = record {
    meets = λ k opening start os bs lt.
        subst (λ x. Meets k opening os x (list_at profile (Some k) (length os) bs).1) (sym (unrolls profile ListFault by_spelling text bs (block_list k opening start) os))
        (subst (λ (l : Listed). Meets k opening os (at_scan by_spelling go text (scan profile bs) (place text (after_fillers bs)) (block_list k opening start) os) l.1) (sym (list_step profile (Some k) (length os) bs))
        (scan_meets n (below n) k opening start os (scan profile bs) (place text (after_fillers bs)) (place_inside (after_fillers bs)) (λ t more e. omega (arith, lt, scan_short profile bs t more e))));
  }

  pub meets : (k : Kind) (opening start : ℕ) (os : List OpenList) (bs : List ℕ) → Meets k opening os (go (block_list k opening start) os bs) (list_at profile (Some k) (length os) bs).1
  meets k opening start os bs = (below (suc (length bs))).meets k opening start os bs (omega arith)
