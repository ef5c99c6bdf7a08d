-- How clean a list is, over one node.
use Rattle.std.proofs.Common.{◌≡◌, ℕ, suc, ◌+◌, Bool, true, false, List, ◌∷◌, Option, Some, None, refl, sym, ap, ◌∙◌, subst, Result, Ok, Err, IfOk, is_ok, drop, eqb, arith, cond as choose}
use Rattle.std.specs.Prelude.{◌&&◌}
use Rattle.std.proofs.lemmas.Bool.{eq-eqb, false_from_ne_true, eqb-true}
use Rattle.teco_core.specs.declared.code.Code.{Code}
use Rattle.teco_core.specs.declared.code.Code.TheVariants.{Pdo}
use Rattle.teco_core.specs.declared.profile.Profile.{Profile}
use Rattle.teco_scan.specs.declared.command.BlockMark.{BlockMark}
use Rattle.teco_scan.specs.declared.command.BlockMark.TheVariants.{Iterate, EndIteration, Otherwise, EndTest}
use Rattle.teco_scan.specs.declared.command.Modifiers.{Modifiers}
use Rattle.teco_scan.specs.declared.command.Test.{Test}
use Rattle.teco_scan.specs.declared.blocks.Kind.{Kind}
use Rattle.teco_scan.specs.declared.blocks.Kind.TheVariants.{Iter, Then, Else}
use Rattle.teco_scan.specs.Scan.{Instruction, Item, Scanned, scan}
use Rattle.teco_scan.specs.Scan as token
use Rattle.teco_scan.specs.Skip.{closing_mark}
use Rattle.teco_scan.specs.Tree.{Nodes, faulty}
use Rattle.teco_scan.specs.Lists.{Close, closed, broken, Listed, wrong, past, behind, second, at_instruction, at_scan, list_at, iter_at, cond_at}
use Rattle.teco_scan.specs.ListLaws.{BlockLaws}
use Rattle.teco_check.specs.Clean.{is_fine, is_clean}
use Rattle.teco_scan.specs.declared.token.TokenKind.{TokenKind}
use Rattle.teco_scan.specs.declared.token.TokenKind.TheVariants as kinds
use Rattle.teco_scan.specs.Seen.{instruction_in}
use Rattle.teco_check.specs.declared.faults.Fault.{Fault}
use Rattle.teco_check.specs.Checked.{rest_clean}

not_deep : (d : ℕ) → (d ≡ 64 → ⊥) → eqb d 64 ≡ false
not_deep d ne = false_from_ne_true (eqb d 64) (λ e. ne (eqb-true d 64 e))

-- a token that is no closing mark, if it is a mark, opens an iteration
pub opens_iteration : (b : BlockMark) → closing_mark (token.mark b) ≡ None → b ≡ Iterate
opens_iteration Iterate e = refl
opens_iteration EndIteration e = absurd cc
opens_iteration Otherwise e = absurd cc
opens_iteration EndTest e = absurd cc

pub wrong_unclean : (code : ℕ → Bool) (may : List ℕ → Bool) (lists : List Nodes) (c : Code) → is_clean code may lists (faulty c) ≡ false
unfolding is_clean
wrong_unclean code may lists c = refl

pub is_iterate : (text : List ℕ) (kind : TokenKind) (b : BlockMark) → kind ≡ kinds.Mark b → closing_mark (instruction_in text kind) ≡ None → instruction_in text kind ≡ token.mark Iterate
is_iterate text kind b e none = ap (λ (x : TokenKind). instruction_in text x) e ∙ ap token.mark (opens_iteration b (sym (ap (λ (x : TokenKind). closing_mark (instruction_in text x)) e) ∙ none))

-- a closing mark is what it says
pub closing_is : (i : Instruction) (b : BlockMark) → Some b ≡ closing_mark i → i ≡ token.mark b
closing_is (token.step i) b is = absurd cc
closing_is (token.mark Iterate) b is = absurd cc
closing_is (token.mark EndIteration) b is = let same : EndIteration ≡ b = cc in ap token.mark same
closing_is (token.mark Otherwise) b is = let same : Otherwise ≡ b = cc in ap token.mark same
closing_is (token.mark EndTest) b is = let same : EndTest ≡ b = cc in ap token.mark same
closing_is (token.decide t) b is = absurd cc
closing_is (token.tag name) b is = absurd cc
closing_is token.escape b is = absurd cc

module _ (profile : Profile) where
  pub found_at : (laws : BlockLaws profile) (k : Option Kind) (d : ℕ) (bs : List ℕ) (s : Scanned) → s ≡ scan profile bs → list_at profile k d bs ≡ at_scan (list_at profile) s k d
  found_at laws k d bs s e = laws.list_unrolls k d bs ∙ ap (λ s. at_scan (list_at profile) s k d) (sym e)

  module _ (code : ℕ → Bool) (may : List ℕ → Bool) (lists : List Nodes) (k : Option Kind) (d : ℕ) where
    abbrev Clean : Listed → Bool
    Clean l = is_clean code may lists l.0

    -- the list itself is clean, and jumps in it land in it or in one around it
    abbrev CleanIn : Listed → Bool
    CleanIn l = is_clean code may (l.0 ∷ lists) l.0

    pub iter_faulty : (l : Listed) → CleanIn l ≡ false → Clean (iter_at (list_at profile) k d l) ≡ false
    unfolding is_clean
    iter_faulty l e = ap (λ (b : Bool). b && Clean (behind (list_at profile) k d (past l.1))) e

    pub iter_clean : (l : Listed) (divided : Bool) (bs : List ℕ) → CleanIn l ≡ true → l.1 ≡ closed divided bs → Clean (iter_at (list_at profile) k d l) ≡ Clean (list_at profile k d bs)
    unfolding is_clean
    iter_clean l divided bs e c = ap (λ (b : Bool). b && Clean (behind (list_at profile) k d (past l.1))) e ∙ ap (λ (x : Close). Clean (behind (list_at profile) k d (past x))) c

    pub cond_faulty : (t : Test) (l : Listed) → CleanIn l ≡ false → Clean (cond_at (list_at profile) k d t l) ≡ false
    unfolding is_clean
    cond_faulty t l e =
        let other : Listed = second (list_at profile) (suc d) l.1 in
        ap (λ (b : Bool). b && (CleanIn other && Clean (behind (list_at profile) k d (past other.1)))) e

    pub cond_clean : (t : Test) (l : Listed) (bs : List ℕ) → CleanIn l ≡ true → l.1 ≡ closed false bs → Clean (cond_at (list_at profile) k d t l) ≡ Clean (list_at profile k d bs)
    unfolding is_clean
    cond_clean t l bs e c = ap (λ (x : Close). Clean (cond_at (list_at profile) k d t (l.0, x))) c ∙ ap (λ (b : Bool). b && Clean (list_at profile k d bs)) e

    pub other_faulty : (t : Test) (l : Listed) (bs : List ℕ) → l.1 ≡ closed true bs → CleanIn (list_at profile (Some Else) (suc d) bs) ≡ false → Clean (cond_at (list_at profile) k d t l) ≡ false
    unfolding is_clean
    other_faulty t l bs c e = ap (λ (x : Close). Clean (cond_at (list_at profile) k d t (l.0, x))) c ∙ ap (λ (b : Bool). CleanIn l && (b && Clean (behind (list_at profile) k d (past (list_at profile (Some Else) (suc d) bs).1)))) e ∙ none (CleanIn l)
      where
        none : (b : Bool) → b && false ≡ false
        none true = refl
        none false = refl

    pub other_clean : (t : Test) (l : Listed) (bs : List ℕ) (divided : Bool) (rest : List ℕ) → CleanIn l ≡ true → l.1 ≡ closed true bs → CleanIn (list_at profile (Some Else) (suc d) bs) ≡ true
        → (list_at profile (Some Else) (suc d) bs).1 ≡ closed divided rest → Clean (cond_at (list_at profile) k d t l) ≡ Clean (list_at profile k d rest)
    unfolding is_clean
    other_clean t l bs divided rest one c e f =
        ap (λ (x : Close). Clean (cond_at (list_at profile) k d t (l.0, x))) c
        ∙ ap (λ (b : Bool). b && (CleanIn (list_at profile (Some Else) (suc d) bs) && Clean (behind (list_at profile) k d (past (list_at profile (Some Else) (suc d) bs).1)))) one
        ∙ ap (λ (b : Bool). b && Clean (behind (list_at profile) k d (past (list_at profile (Some Else) (suc d) bs).1))) e
        ∙ ap (λ (x : Close). Clean (behind (list_at profile) k d (past x))) f

    module _ (m : Modifiers) (bs : List ℕ) where
      -- the 65th open block
      pub iterate_deep : d ≡ 64 → Clean (at_instruction (list_at profile) (token.mark Iterate) m bs k d) ≡ false
      unfolding is_clean
      iterate_deep e = ap (λ (b : Bool). Clean (choose b (wrong Pdo) (iter_at (list_at profile) k d (list_at profile (Some Iter) (suc d) bs)))) (eq-eqb d 64 e)

      pub decide_deep : (t : Test) → d ≡ 64 → Clean (at_instruction (list_at profile) (token.decide t) m bs k d) ≡ false
      unfolding is_clean
      decide_deep t e = ap (λ (b : Bool). Clean (choose b (wrong Pdo) (cond_at (list_at profile) k d t (list_at profile (Some Then) (suc d) bs)))) (eq-eqb d 64 e)

      pub item_clean : (i : Item) (v : Bool) → is_fine code may lists m i ≡ v → Clean (at_instruction (list_at profile) (token.step i) m bs k d) ≡ v && Clean (list_at profile k d bs)
      unfolding is_clean
      item_clean i v e = ap (λ (b : Bool). b && Clean (list_at profile k d bs)) e

      pub tag_clean : (name : List ℕ) → Clean (at_instruction (list_at profile) (token.tag name) m bs k d) ≡ Clean (list_at profile k d bs)
      unfolding is_clean
      tag_clean name = refl

      pub escape_clean : Clean (at_instruction (list_at profile) token.escape m bs k d) ≡ Clean (list_at profile k d bs)
      unfolding is_clean
      escape_clean = refl

  -- where fewer blocks are open
  pub iterate_at : (m : Modifiers) (bs : List ℕ) (k : Option Kind) (d : ℕ) → (d ≡ 64 → ⊥) → at_instruction (list_at profile) (token.mark Iterate) m bs k d ≡ iter_at (list_at profile) k d (list_at profile (Some Iter) (suc d) bs)
  iterate_at m bs k d ne = ap (λ (b : Bool). choose b (wrong Pdo) (iter_at (list_at profile) k d (list_at profile (Some Iter) (suc d) bs))) (not_deep d ne)

  pub decide_at : (t : Test) (m : Modifiers) (bs : List ℕ) (k : Option Kind) (d : ℕ) → (d ≡ 64 → ⊥) → at_instruction (list_at profile) (token.decide t) m bs k d ≡ cond_at (list_at profile) k d t (list_at profile (Some Then) (suc d) bs)
  decide_at t m bs k d ne = ap (λ (b : Bool). choose b (wrong Pdo) (cond_at (list_at profile) k d t (list_at profile (Some Then) (suc d) bs))) (not_deep d ne)

  -- one block deeper
  pub deeper : (code : ℕ → Bool) (may : List ℕ → Bool) (lists : List Nodes) (k : Option Kind) (d : ℕ) (bs : List ℕ) (v : Bool) → is_clean code may ((list_at profile k (d + 1) bs).0 ∷ lists) (list_at profile k (d + 1) bs).0 ≡ v
      → is_clean code may ((list_at profile k (suc d) bs).0 ∷ lists) (list_at profile k (suc d) bs).0 ≡ v
  deeper code may lists k d bs v e =
      let one : d + 1 ≡ suc d = omega arith in
      subst (λ (n : ℕ). is_clean code may ((list_at profile k n bs).0 ∷ lists) (list_at profile k n bs).0 ≡ v) one e

  pub closes_deeper : (k : Option Kind) (d : ℕ) (bs : List ℕ) (x : Close) → (list_at profile k (d + 1) bs).1 ≡ x → (list_at profile k (suc d) bs).1 ≡ x
  closes_deeper k d bs x e =
      let one : d + 1 ≡ suc d = omega arith in
      subst (λ (n : ℕ). (list_at profile k n bs).1 ≡ x) one e

  pub item_rest : (code : ℕ → Bool) (may : List ℕ → Bool) (lists : List Nodes) (k : Option Kind) (d : ℕ) (m : Modifiers) (text : List ℕ) (to : ℕ) (i : Item) (r : Result ℕ Fault)
      → IfOk r (λ x. x ≡ to) → is_fine code may lists m i ≡ is_ok r → is_clean code may lists (at_instruction (list_at profile) (token.step i) m (drop to text) k d).0 ≡ rest_clean profile code may lists text k d r
  item_rest code may lists k d m text to i (Ok x) same e = item_clean code may lists k d m (drop to text) i true e ∙ ap (λ (n : ℕ). is_clean code may lists (list_at profile k d (drop n text)).0) (sym same)
  item_rest code may lists k d m text to i (Err f) same e = item_clean code may lists k d m (drop to text) i false e

  -- a list in which a node breaks, breaks so
  module _ (k : Option Kind) (d : ℕ) (code : Code) where
    pub iter_breaks : (l : Listed) → l.1 ≡ broken code → (iter_at (list_at profile) k d l).1 ≡ broken code
    iter_breaks l e = ap (λ (x : Close). (behind (list_at profile) k d (past x)).1) e

    pub cond_breaks : (t : Test) (l : Listed) → l.1 ≡ broken code → (cond_at (list_at profile) k d t l).1 ≡ broken code
    cond_breaks t l e = ap (λ (x : Close). (cond_at (list_at profile) k d t (l.0, x)).1) e

    pub other_breaks : (t : Test) (l : Listed) (bs : List ℕ) → l.1 ≡ closed true bs → (list_at profile (Some Else) (suc d) bs).1 ≡ broken code → (cond_at (list_at profile) k d t l).1 ≡ broken code
    other_breaks t l bs c e = ap (λ (x : Close). (cond_at (list_at profile) k d t (l.0, x)).1) c ∙ ap (λ (x : Close). (behind (list_at profile) k d (past x)).1) e
