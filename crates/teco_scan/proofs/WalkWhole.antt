-- A walk by the rule of spelling finds no fault in a text exactly if its nodes are whole, and else one by which its list is broken.
use Rattle.std.proofs.Common.{◌≡◌, ℕ, zero, suc, ◌<◌, ◌≤◌, true, false, List, [], ◌∷◌, length, Option, Some, None, is_none, refl, sym, ap, ◌∙◌, subst, arith}
use Rattle.teco_core.specs.declared.code.Code.{Code}
use Rattle.teco_scan.specs.declared.breaks.ListFault.{ListFault}
use Rattle.teco_scan.specs.declared.command.BlockMark.TheVariants.{Iterate, EndIteration, Otherwise, EndTest}
use Rattle.teco_scan.specs.declared.command.Modifiers.{Modifiers}
use Rattle.teco_scan.specs.declared.blocks.Kind.TheVariants.{Iter, Then, Else}
use Rattle.teco_scan.specs.Breaks.{by_spelling, fault_at, first_break}
use Rattle.teco_scan.specs.Lists.{Close, closed, broken, past, Listed, wrong, behind, second, list_at, nodes}
use Rattle.teco_scan.specs.Lists as lists
use Rattle.teco_scan.specs.ListLaws.{Within}
use Rattle.teco_scan.specs.Nesting.{is_whole}
use Rattle.teco_core.specs.declared.profile.Profile.{Profile}
use Rattle.teco_scan.specs.Scan.{Instruction, Scanned, TokenMeaning, found, ended, fault, scan, after_fillers}
use Rattle.teco_scan.specs.Scan as token
use Rattle.teco_scan.specs.Walk.{place, own_list, at_instruction, at_scan}
use Rattle.teco_scan.proofs.ListUnrolls.{list_step, list_short}
use Rattle.teco_scan.proofs.TokenShortens.{scan_short}
use Rattle.teco_scan.proofs.WalkUnrolls.{unrolls}
use Rattle.teco_scan.proofs.WalkMeets.{Comes, Meets, block_list, go, meets}

module _ (profile : Profile) where
  module _ (text : List ℕ) where
    -- what the walk comes to in the text's own list, beside the nodes of it
    pub record Tells (r : Option ListFault) (l : Listed) : Type 0 where
      pub whole : is_whole l.0 ≡ is_none r
      pub broke : (there : ListFault) → r ≡ Some there → (l.1 ≡ broken there.code) × (there.at ≤ length text)

    -- a fault that ends the list
    wrong_tells : (r : Option ListFault) (code : Code) → Comes profile text r code → Tells r (wrong code)
    unfolding is_whole
    wrong_tells r code h = record {
      whole = ap is_none (sym h.is);
      broke = λ there e. let same : h.there ≡ there = some_same (sym h.is ∙ e) in
          (ap broken (sym h.by ∙ ap (λ (f : ListFault). f.code) same), subst (λ (f : ListFault). f.at ≤ length text) same h.inside);
    }
      where
        some_same : {a b : ListFault} → Some a ≡ Some b → a ≡ b
        some_same e = cc

    fault_tells : (at : ℕ) (code : Code) → at ≤ length text → Tells (Some (fault_at at code)) (wrong code)
    fault_tells at code h = wrong_tells (Some (fault_at at code)) code (record { there = fault_at at code; is = refl; by = refl; inside = h })

    -- the text's own list from some bytes on
    abbrev own : List ℕ → Option ListFault
    own bs = go profile text own_list [] bs

    record Below (n : ℕ) : Type 0 where
      tells : (bs : List ℕ) → length bs < n → Tells (own bs) (list_at profile None 0 bs)

    module _ (n : ℕ) (ih : Below n) where
      on : (r : Option ListFault) (rest : List ℕ) → length rest < n → r ≡ own rest → Tells r (list_at profile None 0 rest)
      on r rest lt e = subst (λ x. Tells x (list_at profile None 0 rest)) (sym e) (ih.tells rest lt)

      after_iteration : (at : ℕ) (r : Option ListFault) (c : Close) → Within n c → Meets profile text Iter at (own_list ∷ []) r c → Tells r (behind (list_at profile) None 0 (past c))
      after_iteration at r (closed divided rest) lt e = on r rest lt e
      after_iteration at r (broken code) lt h = wrong_tells r code h

      after_second : (at : ℕ) (r : Option ListFault) (c : Close) → Within n c → Meets profile text Else at (own_list ∷ []) r c → Tells r (behind (list_at profile) None 0 (past c))
      after_second at r (closed divided rest) lt e = on r rest lt e
      after_second at r (broken code) lt h = wrong_tells r code h

      within_less : (m : ℕ) (c : Close) → m < n → Within m c → Within n c
      within_less m (closed divided rest) lt h = omega (arith, lt, h)
      within_less m (broken code) lt h = tt

      after_first : (at : ℕ) (r : Option ListFault) (c : Close) → Within n c → Meets profile text Then at (own_list ∷ []) r c → Tells r (behind (list_at profile) None 0 (past (second (list_at profile) 1 c).1))
      after_first at r (closed true rest) lt e =
          after_second at r (list_at profile (Some Else) 1 rest).1 (within_less (length rest) (list_at profile (Some Else) 1 rest).1 lt (list_short profile (Some Else) 1 rest))
          (subst (λ x. Meets profile text Else at (own_list ∷ []) x (list_at profile (Some Else) 1 rest).1) (sym e) (meets profile text Else at (place text rest) (own_list ∷ []) rest))
      after_first at r (closed false rest) lt e = on r rest lt e
      after_first at r (broken code) lt h = wrong_tells r code h

      -- one node more in front
      put_tells : (r : Option ListFault) (l m : Listed) → is_whole m.0 ≡ is_whole l.0 → m.1 ≡ l.1 → Tells r l → Tells r m
      put_tells r l m same closes h = record { whole = same ∙ h.whole; broke = λ there e. (closes ∙ (h.broke there e).0, (h.broke there e).1) }

      instruction_tells : (i : Instruction) (m : Modifiers) (at : ℕ) (more : List ℕ) → at ≤ length text → length more < n
          → Tells (at_instruction by_spelling (go profile text) text i at own_list [] more) (lists.at_instruction (list_at profile) i m more None 0)
      unfolding is_whole
      instruction_tells (token.step i) m at more h lt = put_tells (own more) (list_at profile None 0 more) _ refl refl (ih.tells more lt)
      instruction_tells (token.tag name) m at more h lt = put_tells (own more) (list_at profile None 0 more) _ refl refl (ih.tells more lt)
      instruction_tells token.escape m at more h lt = put_tells (own more) (list_at profile None 0 more) _ refl refl (ih.tells more lt)
      instruction_tells (token.decide t) m at more h lt =
          put_tells (go profile text (block_list Then at (place text more)) (own_list ∷ []) more) (behind (list_at profile) None 0 (past (second (list_at profile) 1 (list_at profile (Some Then) 1 more).1).1)) _ refl refl
          (after_first at (go profile text (block_list Then at (place text more)) (own_list ∷ []) more) (list_at profile (Some Then) 1 more).1
          (within_less (length more) (list_at profile (Some Then) 1 more).1 lt (list_short profile (Some Then) 1 more))
          (meets profile text Then at (place text more) (own_list ∷ []) more))
      instruction_tells (token.mark Iterate) m at more h lt =
          put_tells (go profile text (block_list Iter at (place text more)) (own_list ∷ []) more) (behind (list_at profile) None 0 (past (list_at profile (Some Iter) 1 more).1)) _ refl refl
          (after_iteration at (go profile text (block_list Iter at (place text more)) (own_list ∷ []) more) (list_at profile (Some Iter) 1 more).1
          (within_less (length more) (list_at profile (Some Iter) 1 more).1 lt (list_short profile (Some Iter) 1 more))
          (meets profile text Iter at (place text more) (own_list ∷ []) more))
      instruction_tells (token.mark EndIteration) m at more h lt = fault_tells at _ h
      instruction_tells (token.mark Otherwise) m at more h lt = fault_tells at _ h
      instruction_tells (token.mark EndTest) m at more h lt = fault_tells at _ h

      scan_tells : (s : Scanned) (at : ℕ) → at ≤ length text → ((t : TokenMeaning) (more : List ℕ) → s ≡ found t more → length more < n)
          → Tells (at_scan by_spelling (go profile text) text s at own_list []) (lists.at_scan (list_at profile) s None 0)
      unfolding is_whole
      scan_tells (found t more) at h lt = instruction_tells t.instruction t.modifiers at more h (lt t more refl)
      scan_tells ended at h lt = record { whole = refl; broke = λ there e. absurd cc }
      scan_tells (fault code) at h lt = fault_tells at code h

    place_inside : (rest : List ℕ) → place text rest ≤ length text
    place_inside rest = omega arith

    below : (n : ℕ) → Below n
    below zero = record { tells = λ bs lt. absurd (omega (arith, lt)) }
    below (suc n) = record {
      tells = λ bs lt.
          subst (λ x. Tells x (list_at profile None 0 bs)) (sym (unrolls profile ListFault by_spelling text bs own_list []))
          (subst (λ (l : Listed). Tells (at_scan by_spelling (go profile text) text (scan profile bs) (place text (after_fillers bs)) own_list []) l) (sym (list_step profile None 0 bs))
          (scan_tells n (below n) (scan profile bs) (place text (after_fillers bs)) (place_inside (after_fillers bs)) (λ t more e. omega (arith, lt, scan_short profile bs t more e))));
    }

  -- what the first fault of a text is beside its nodes
  pub text_tells : (text : List ℕ) → Tells text (first_break profile text) (list_at profile None 0 text)
  text_tells text = (below text (suc (length text))).tells text (omega arith)
