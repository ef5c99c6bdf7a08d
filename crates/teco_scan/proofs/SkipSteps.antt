-- How a list closes, and where a tag is, over one token.
use Rattle.std.proofs.Common.{◌≡◌, ◌≢◌, ℕ, suc, ◌≤◌, Bool, true, false, List, Option, Some, None, refl, sym, ap, ◌∙◌, eqb, cond as choose}
use Rattle.teco_scan.specs.declared.command.BlockMark.{BlockMark}
use Rattle.std.proofs.lemmas.Bool.{eq-eqb, false_from_ne_true, eqb-true}
use Rattle.teco_core.specs.declared.code.Code.TheVariants.{Pdo}
use Rattle.teco_scan.specs.declared.command.Modifiers.{Modifiers}
use Rattle.teco_scan.specs.declared.command.BlockMark.TheVariants.{Iterate, EndIteration, Otherwise, EndTest}
use Rattle.teco_scan.specs.declared.blocks.Kind.{Kind}
use Rattle.teco_scan.specs.declared.blocks.Kind.TheVariants.{Iter, Then}
use Rattle.teco_core.specs.declared.profile.Profile.{Profile}
use Rattle.teco_scan.specs.Scan.{Instruction, TokenMeaning, Scanned, found, ended, fault, scan}
use Rattle.teco_scan.specs.Scan as token
use Rattle.teco_scan.specs.Skip.{opened_kind, closing_mark, is_tag}
use Rattle.teco_scan.specs.Lists.{broken, wrong, behind, behind_block, at_instruction, at_scan, list_at, iter_at, cond_at, tag_behind, tag_at_instruction, tag_at_scan, tag_at}
use Rattle.teco_scan.proofs.ListUnrolls.{list_step}
use Rattle.teco_scan.proofs.SearchUnrolls.{tag_step}

module _ (profile : Profile) where
  -- by what is found there
  pub list_found : (k : Option Kind) (d : ℕ) (bs : List ℕ) (s : Scanned) → s ≡ scan profile bs → list_at profile k d bs ≡ at_scan (list_at profile) s k d
  list_found k d bs s e = list_step profile k d bs ∙ ap (λ s. at_scan (list_at profile) s k d) (sym e)

not_deep : (d : ℕ) → d ≤ 64 → (d ≡ 64 → ⊥) → eqb d 64 ≡ false
not_deep d le ne = false_from_ne_true (eqb d 64) (λ e. ne (eqb-true d 64 e))

module _ (profile : Profile) where
  -- a token that opens a block
  module _ (m : Modifiers) (bs : List ℕ) (k : Option Kind) (d : ℕ) where
    pub node_deep : (kind : Kind) (i : Instruction) → Some kind ≡ opened_kind i → d ≡ 64 → (at_instruction (list_at profile) i m bs k d).1 ≡ broken Pdo
    node_deep kind (token.mark Iterate) opens e = ap (λ (b : _). (choose b (wrong Pdo) (iter_at (list_at profile) k d (list_at profile (Some Iter) (suc d) bs))).1) (eq-eqb d 64 e)
    node_deep kind (token.decide t) opens e = ap (λ (b : _). (choose b (wrong Pdo) (cond_at (list_at profile) k d t (list_at profile (Some Then) (suc d) bs))).1) (eq-eqb d 64 e)
    node_deep kind (token.step i) opens e = absurd cc
    node_deep kind (token.mark EndIteration) opens e = absurd cc
    node_deep kind (token.mark Otherwise) opens e = absurd cc
    node_deep kind (token.mark EndTest) opens e = absurd cc
    node_deep kind (token.tag name) opens e = absurd cc
    node_deep kind token.escape opens e = absurd cc

    pub node_open : (kind : Kind) (i : Instruction) → Some kind ≡ opened_kind i → d ≤ 64 → (d ≡ 64 → ⊥)
        → (at_instruction (list_at profile) i m bs k d).1 ≡ (behind (list_at profile) k d (behind_block (list_at profile) kind (suc d) (list_at profile (Some kind) (suc d) bs).1)).1
    node_open kind (token.mark Iterate) opens le ne =
        let same : Iter ≡ kind = cc in
        ap (λ (b : _). (choose b (wrong Pdo) (iter_at (list_at profile) k d (list_at profile (Some Iter) (suc d) bs))).1) (not_deep d le ne)
        ∙ ap (λ x. (behind (list_at profile) k d (behind_block (list_at profile) x (suc d) (list_at profile (Some x) (suc d) bs).1)).1) same
    node_open kind (token.decide t) opens le ne =
        let same : Then ≡ kind = cc in
        ap (λ (b : _). (choose b (wrong Pdo) (cond_at (list_at profile) k d t (list_at profile (Some Then) (suc d) bs))).1) (not_deep d le ne)
        ∙ ap (λ x. (behind (list_at profile) k d (behind_block (list_at profile) x (suc d) (list_at profile (Some x) (suc d) bs).1)).1) same
    node_open kind (token.step i) opens le ne = absurd cc
    node_open kind (token.mark EndIteration) opens le ne = absurd cc
    node_open kind (token.mark Otherwise) opens le ne = absurd cc
    node_open kind (token.mark EndTest) opens le ne = absurd cc
    node_open kind (token.tag name) opens le ne = absurd cc
    node_open kind token.escape opens le ne = absurd cc

  -- the search for a tag, by what is found there
  pub tag_found : (name : List ℕ) (d : ℕ) (bs : List ℕ) (s : Scanned) → s ≡ scan profile bs → tag_at profile name d bs ≡ tag_at_scan profile name (tag_at profile name) s d
  tag_found name d bs s e = tag_step profile name d bs ∙ ap (λ s. tag_at_scan profile name (tag_at profile name) s d) (sym e)

  module _ (name bs : List ℕ) (d : ℕ) where
    pub tag_here : (i : Instruction) → is_tag name i ≡ true → tag_at_instruction profile name (tag_at profile name) i bs d ≡ Some bs
    tag_here (token.step i) is = absurd cc
    tag_here (token.mark b) is = absurd cc
    tag_here (token.decide t) is = absurd cc
    tag_here (token.tag other) is = ap (λ (b : Bool). choose b (Some bs) (tag_at profile name d bs)) is
    tag_here token.escape is = absurd cc

    pub tag_closed : (i : Instruction) (b : BlockMark) → Some b ≡ closing_mark i → tag_at_instruction profile name (tag_at profile name) i bs d ≡ None
    tag_closed (token.step i) b is = absurd cc
    tag_closed (token.mark Iterate) b is = absurd cc
    tag_closed (token.mark EndIteration) b is = refl
    tag_closed (token.mark Otherwise) b is = refl
    tag_closed (token.mark EndTest) b is = refl
    tag_closed (token.decide t) b is = absurd cc
    tag_closed (token.tag other) b is = absurd cc
    tag_closed token.escape b is = absurd cc

    pub tag_open : (kind : Kind) (i : Instruction) → Some kind ≡ opened_kind i → d ≤ 64 → (d ≡ 64 → ⊥)
        → tag_at_instruction profile name (tag_at profile name) i bs d ≡ tag_behind (tag_at profile name) d (behind_block (list_at profile) kind (suc d) (list_at profile (Some kind) (suc d) bs).1)
    tag_open kind (token.mark Iterate) opens le ne =
        let same : Iter ≡ kind = cc in
        ap (λ (b : _). choose b None (tag_behind (tag_at profile name) d (behind_block (list_at profile) Iter (suc d) (list_at profile (Some Iter) (suc d) bs).1))) (not_deep d le ne)
        ∙ ap (λ x. tag_behind (tag_at profile name) d (behind_block (list_at profile) x (suc d) (list_at profile (Some x) (suc d) bs).1)) same
    tag_open kind (token.decide t) opens le ne =
        let same : Then ≡ kind = cc in
        ap (λ (b : _). choose b None (tag_behind (tag_at profile name) d (behind_block (list_at profile) Then (suc d) (list_at profile (Some Then) (suc d) bs).1))) (not_deep d le ne)
        ∙ ap (λ x. tag_behind (tag_at profile name) d (behind_block (list_at profile) x (suc d) (list_at profile (Some x) (suc d) bs).1)) same
    tag_open kind (token.step i) opens le ne = absurd cc
    tag_open kind (token.mark EndIteration) opens le ne = absurd cc
    tag_open kind (token.mark Otherwise) opens le ne = absurd cc
    tag_open kind (token.mark EndTest) opens le ne = absurd cc
    tag_open kind (token.tag other) opens le ne = absurd cc
    tag_open kind token.escape opens le ne = absurd cc

-- a closing mark is what it says
pub closing_is : (i : Instruction) (b : BlockMark) → Some b ≡ closing_mark i → (i ≡ token.mark b) × (b ≢ Iterate)
closing_is (token.step i) b is = absurd cc
closing_is (token.mark Iterate) b is = absurd cc
closing_is (token.mark EndIteration) b is = let same : EndIteration ≡ b = cc in (ap token.mark same, λ e. cc)
closing_is (token.mark Otherwise) b is = let same : Otherwise ≡ b = cc in (ap token.mark same, λ e. cc)
closing_is (token.mark EndTest) b is = let same : EndTest ≡ b = cc in (ap token.mark same, λ e. cc)
closing_is (token.decide t) b is = absurd cc
closing_is (token.tag name) b is = absurd cc
closing_is token.escape b is = absurd cc
