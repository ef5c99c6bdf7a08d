-- A walk unrolls over its tokens.
use Rattle.std.proofs.Common.{◌≡◌, ℕ, zero, suc, ◌<◌, ◌≤◌, List, [], ◌∷◌, length, length-drop, drop, Option, Some, None, eqb, cond as choose, refl, sym, ap, ◌∙◌, arith}
use Rattle.std.specs.Prelude.{◌==◌}
use Rattle.std.proofs.lemmas.Bool.{eqb-true, false_from_ne_true}
use Rattle.teco_scan.specs.declared.command.BlockMark.{BlockMark}
use Rattle.teco_scan.specs.declared.command.BlockMark.TheVariants.{Iterate, EndIteration, Otherwise, EndTest}
use Rattle.teco_scan.specs.declared.blocks.Kind.{Kind}
use Rattle.teco_scan.specs.declared.blocks.Kind.TheVariants.{Iter, Then, Else}
use Rattle.teco_core.specs.declared.profile.Profile.{Profile}
use Rattle.teco_scan.specs.Scan.{Instruction, Scanned, TokenMeaning, found, ended, fault, scan, after_fillers}
use Rattle.teco_scan.specs.Scan as token
use Rattle.teco_scan.specs.Walk.{OpenList, Rule, Walker, too_deep, place, after_item, in_block, out_of, at_mark, at_instruction, at_scan, walk_within, walk}
use Rattle.teco_scan.proofs.TokenShortens.{scan_short}

-- a place is that of the bytes from there
pub place_is : (bytes more : List ℕ) (at : ℕ) → at ≤ length bytes → drop at bytes ≡ more → place bytes more ≡ at
place_is bytes more at h e = ap (place bytes) (sym e) ∙ omega (arith, length-drop at bytes, h)

-- two walkers that agree on these bytes
record Agree (F : Type 0) (f g : Walker F) (rest : List ℕ) : Type 0 where
  same : (o : OpenList) (os : List OpenList) → f o os rest ≡ g o os rest

module _ (F : Type 0) (rule : Rule F) (f g : Walker F) (bytes : List ℕ) where
  same_item : (w : Option F) (o : OpenList) (os : List OpenList) (rest : List ℕ) → Agree F f g rest → after_item f w o os rest ≡ after_item g w o os rest
  same_item None o os rest h = h.same o os
  same_item (Some w) o os rest h = refl

  same_out : (os : List OpenList) (rest : List ℕ) → Agree F f g rest → out_of f os rest ≡ out_of g os rest
  same_out [] rest h = refl
  same_out (o ∷ os) rest h = h.same o os

  same_block : (kind : Kind) (at : ℕ) (o : OpenList) (os : List OpenList) (rest : List ℕ) → Agree F f g rest → in_block rule f bytes kind at o os rest ≡ in_block rule g bytes kind at o os rest
  same_block kind at o os rest h =
      ap (λ (x : Option F). choose (length os == 64) (Some (rule.breaks at too_deep o)) x) (h.same (record { kind = Some kind; opening = at; start = place bytes rest }) (o ∷ os))

  same_mark : (b : BlockMark) (kind : Option Kind) (at : ℕ) (o : OpenList) (os : List OpenList) (rest : List ℕ) → Agree F f g rest → at_mark rule f bytes b kind at o os rest ≡ at_mark rule g bytes b kind at o os rest
  same_mark Iterate kind at o os rest h = same_block Iter at o os rest h
  same_mark EndIteration (Some Iter) at o os rest h = same_out os rest h
  same_mark EndIteration (Some Then) at o os rest h = refl
  same_mark EndIteration (Some Else) at o os rest h = refl
  same_mark EndIteration None at o os rest h = refl
  same_mark Otherwise (Some Then) at o os rest h = h.same (record o { kind = Some Else; start = place bytes rest }) os
  same_mark Otherwise (Some Iter) at o os rest h = refl
  same_mark Otherwise (Some Else) at o os rest h = refl
  same_mark Otherwise None at o os rest h = refl
  same_mark EndTest (Some Then) at o os rest h = same_out os rest h
  same_mark EndTest (Some Else) at o os rest h = same_out os rest h
  same_mark EndTest (Some Iter) at o os rest h = refl
  same_mark EndTest None at o os rest h = refl

  same_instruction : (i : Instruction) (at : ℕ) (o : OpenList) (os : List OpenList) (rest : List ℕ) → Agree F f g rest → at_instruction rule f bytes i at o os rest ≡ at_instruction rule g bytes i at o os rest
  same_instruction (token.step i) at o os rest h = same_item (rule.item at i (o ∷ os)) o os rest h
  same_instruction (token.mark b) at o os rest h = same_mark b o.kind at o os rest h
  same_instruction (token.decide t) at o os rest h = same_block Then at o os rest h
  same_instruction (token.tag name) at o os rest h = h.same o os
  same_instruction token.escape at o os rest h = h.same o os

  same_scan : (s : Scanned) (at : ℕ) (o : OpenList) (os : List OpenList) → ((t : TokenMeaning) (rest : List ℕ) → s ≡ found t rest → Agree F f g rest) → at_scan rule f bytes s at o os ≡ at_scan rule g bytes s at o os
  same_scan (found t rest) at o os h = same_instruction t.instruction at o os rest (h t rest refl)
  same_scan ended at o os h = refl
  same_scan (fault c) at o os h = refl

module _ (profile : Profile) (F : Type 0) (rule : Rule F) (bytes : List ℕ) where
  enough : (n m : ℕ) (bs : List ℕ) (o : OpenList) (os : List OpenList) → length bs < n → length bs < m → walk_within profile n rule bytes o os bs ≡ walk_within profile m rule bytes o os bs
  unfolding walk_within
  enough zero m bs o os p q = absurd (omega (arith, p))
  enough (suc n) zero bs o os p q = absurd (omega (arith, q))
  enough (suc n) (suc m) bs o os p q =
      same_scan F rule (walk_within profile n rule bytes) (walk_within profile m rule bytes) bytes (scan profile bs) (place bytes (after_fillers bs)) o os
      (λ t rest e. let lt : length rest < length bs = scan_short profile bs t rest e in
      record { same = λ a around. enough n m rest a around (omega (arith, p, lt)) (omega (arith, q, lt)) })

  pub unrolls : (bs : List ℕ) (o : OpenList) (os : List OpenList)
      → walk profile rule bytes o os bs ≡ at_scan rule (walk profile rule bytes) bytes (scan profile bs) (place bytes (after_fillers bs)) o os
  unfolding walk walk_within
  unrolls bs o os =
      same_scan F rule (walk_within profile (length bs) rule bytes) (walk profile rule bytes) bytes (scan profile bs) (place bytes (after_fillers bs)) o os
      (λ t rest e. let lt : length rest < length bs = scan_short profile bs t rest e in
      record { same = λ a around. enough (length bs) (suc (length rest)) rest a around (omega (arith, lt)) (omega arith) })

  -- from what was scanned on
  pub scanned_at : (bs : List ℕ) (o : OpenList) (os : List OpenList) (s : Scanned) (at : ℕ) → s ≡ scan profile bs → place bytes (after_fillers bs) ≡ at
      → walk profile rule bytes o os bs ≡ at_scan rule (walk profile rule bytes) bytes s at o os
  scanned_at bs o os s at e p =
      unrolls bs o os
      ∙ ap (λ (x : Scanned). at_scan rule (walk profile rule bytes) bytes x (place bytes (after_fillers bs)) o os) (sym e)
      ∙ ap (λ (n : ℕ). at_scan rule (walk profile rule bytes) bytes s n o os) p

  -- a block that is opened, where fewer are open than may be
  pub block_opens : (go : Walker F) (kind : Kind) (at : ℕ) (o : OpenList) (os : List OpenList) (to : ℕ) → (length os ≡ 64 → ⊥) → to ≤ length bytes
      → in_block rule go bytes kind at o os (drop to bytes) ≡ go (record { kind = Some kind; opening = at; start = to }) (o ∷ os) (drop to bytes)
  block_opens go kind at o os to few inside =
      ap (λ b. choose b (Some (rule.breaks at too_deep o)) (go (record { kind = Some kind; opening = at; start = place bytes (drop to bytes) }) (o ∷ os) (drop to bytes)))
      (false_from_ne_true (eqb (length os) 64) (λ e. few (eqb-true (length os) 64 e)))
      ∙ ap (λ (p : ℕ). go (record { kind = Some kind; opening = at; start = p }) (o ∷ os) (drop to bytes)) (place_is bytes (drop to bytes) to inside refl)
