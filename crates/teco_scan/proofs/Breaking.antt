-- Where a list breaks, and whether it is whole, over one token.
use Rattle.std.proofs.Common.{◌≡◌, ℕ, suc, ◌+◌, ◌<◌, Bool, true, false, List, Option, Some, None, Err, refl, sym, ap, ◌∙◌, eqb, is_none, arith, cond as choose}
use Rattle.std.proofs.lemmas.Bool.{eq-eqb, false_from_ne_true, eqb-true}
use Rattle.teco_core.specs.declared.code.Code.{Code}
use Rattle.teco_core.specs.declared.code.Code.TheVariants.{Pdo}
use Rattle.teco_scan.specs.declared.command.BlockMark.TheVariants.{Iterate, EndIteration, Otherwise, EndTest}
use Rattle.teco_scan.specs.declared.command.Modifiers.{Modifiers}
use Rattle.teco_scan.specs.declared.blocks.Kind.{Kind}
use Rattle.teco_scan.specs.declared.blocks.Kind.TheVariants.{Iter, Then, Else}
use Rattle.teco_core.specs.declared.profile.Profile.{Profile}
use Rattle.teco_scan.specs.Scan.{Instruction, Scanned, ended, scan}
use Rattle.teco_scan.specs.Scan as token
use Rattle.teco_scan.specs.Skip.{closing_mark, opened_kind}
use Rattle.teco_scan.specs.Lists.{Close, closed, broken, Past, past, wrong, behind, behind_block, at_instruction, at_scan, list_at, iter_at, cond_at}
use Rattle.teco_scan.specs.Nesting.{is_whole}
use Rattle.teco_scan.proofs.SkipSteps.{list_found}

-- what can't be passed is broken by that code
past_broken : (x : Close) (code : Code) → past x ≡ Err code → x ≡ broken code
past_broken (closed divided bs) code e = absurd cc
past_broken (broken c) code e = let same : c ≡ code = cc in ap broken same

module _ (profile : Profile) where
  -- Where the first list of a block closes and the whole can't be passed, the second part is broken.
  pub second_breaks : (kind : Kind) (d : ℕ) (divided : Bool) (bs : List ℕ) (code : Code) → behind_block (list_at profile) kind d (closed divided bs) ≡ Err code
      → (kind ≡ Then) × (divided ≡ true) × ((list_at profile (Some Else) d bs).1 ≡ broken code)
  second_breaks Iter d divided bs code e = absurd cc
  second_breaks Then d true bs code e = (refl, refl, past_broken (list_at profile (Some Else) d bs).1 code e)
  second_breaks Then d false bs code e = absurd cc
  second_breaks Else d divided bs code e = absurd cc

not_deep : (d : ℕ) → d < 64 → eqb d 64 ≡ false
not_deep d lt = false_from_ne_true (eqb d 64) (λ e. let same = eqb-true d 64 e in absurd (omega (arith, lt, same)))

module _ (profile : Profile) where
  -- a list goes on whole after a whole block
  pub block_whole : (m : Modifiers) (bs : List ℕ) (k : Option Kind) (d : ℕ) (kind : Kind) (i : Instruction) → opened_kind i ≡ Some kind → d < 64
      → is_whole (at_instruction (list_at profile) i m bs k d).0 ≡ is_whole (behind (list_at profile) k d (behind_block (list_at profile) kind (suc d) (list_at profile (Some kind) (suc d) bs).1)).0
  unfolding is_whole
  block_whole m bs k d kind (token.mark Iterate) opens lt =
      let same : Iter ≡ kind = cc in
      ap (λ (b : _). is_whole (choose b (wrong Pdo) (iter_at (list_at profile) k d (list_at profile (Some Iter) (suc d) bs))).0) (not_deep d lt)
      ∙ ap (λ x. is_whole (behind (list_at profile) k d (behind_block (list_at profile) x (suc d) (list_at profile (Some x) (suc d) bs).1)).0) same
  block_whole m bs k d kind (token.decide t) opens lt =
      let same : Then ≡ kind = cc in
      ap (λ (b : _). is_whole (choose b (wrong Pdo) (cond_at (list_at profile) k d t (list_at profile (Some Then) (suc d) bs))).0) (not_deep d lt)
      ∙ ap (λ x. is_whole (behind (list_at profile) k d (behind_block (list_at profile) x (suc d) (list_at profile (Some x) (suc d) bs).1)).0) same
  block_whole m bs k d kind (token.step i) opens lt = absurd cc
  block_whole m bs k d kind (token.mark EndIteration) opens lt = absurd cc
  block_whole m bs k d kind (token.mark Otherwise) opens lt = absurd cc
  block_whole m bs k d kind (token.mark EndTest) opens lt = absurd cc
  block_whole m bs k d kind (token.tag name) opens lt = absurd cc
  block_whole m bs k d kind token.escape opens lt = absurd cc

  pub passed_whole : (m : Modifiers) (bs : List ℕ) (k : Option Kind) (d : ℕ) (kind : Kind) (i : Instruction) (x : Past) → opened_kind i ≡ Some kind → d < 64
      → behind_block (list_at profile) kind (d + 1) (list_at profile (Some kind) (d + 1) bs).1 ≡ x
      → is_whole (at_instruction (list_at profile) i m bs k d).0 ≡ is_whole (behind (list_at profile) k d x).0
  passed_whole m bs k d kind i x opens lt e =
      let one : d + 1 ≡ suc d = omega arith in
      block_whole m bs k d kind i opens lt
      ∙ ap (λ (n : ℕ). is_whole (behind (list_at profile) k d (behind_block (list_at profile) kind n (list_at profile (Some kind) n bs).1)).0) (sym one)
      ∙ ap (λ (y : Past). is_whole (behind (list_at profile) k d y).0) e

pub wrong_whole : (c : Code) → is_whole (wrong c).0 ≡ false
unfolding is_whole
wrong_whole c = refl

module _ (profile : Profile) where
  pub deep_whole : (m : Modifiers) (bs : List ℕ) (k : Option Kind) (d : ℕ) (kind : Kind) (i : Instruction) → opened_kind i ≡ Some kind → d ≡ 64
      → is_whole (at_instruction (list_at profile) i m bs k d).0 ≡ false
  unfolding is_whole
  deep_whole m bs k d kind (token.mark Iterate) opens e = ap (λ (b : _). is_whole (choose b (wrong Pdo) (iter_at (list_at profile) k d (list_at profile (Some Iter) (suc d) bs))).0) (eq-eqb d 64 e)
  deep_whole m bs k d kind (token.decide t) opens e = ap (λ (b : _). is_whole (choose b (wrong Pdo) (cond_at (list_at profile) k d t (list_at profile (Some Then) (suc d) bs))).0) (eq-eqb d 64 e)
  deep_whole m bs k d kind (token.step i) opens e = absurd cc
  deep_whole m bs k d kind (token.mark EndIteration) opens e = absurd cc
  deep_whole m bs k d kind (token.mark Otherwise) opens e = absurd cc
  deep_whole m bs k d kind (token.mark EndTest) opens e = absurd cc
  deep_whole m bs k d kind (token.tag name) opens e = absurd cc
  deep_whole m bs k d kind token.escape opens e = absurd cc

  -- a token that is none of a block
  pub token_whole : (m : Modifiers) (bs : List ℕ) (k : Option Kind) (d : ℕ) (i : Instruction) → opened_kind i ≡ None → closing_mark i ≡ None
      → is_whole (at_instruction (list_at profile) i m bs k d).0 ≡ is_whole (list_at profile k d bs).0
  unfolding is_whole
  token_whole m bs k d (token.step i) opens closes = refl
  token_whole m bs k d (token.mark Iterate) opens closes = absurd cc
  token_whole m bs k d (token.mark EndIteration) opens closes = absurd cc
  token_whole m bs k d (token.mark Otherwise) opens closes = absurd cc
  token_whole m bs k d (token.mark EndTest) opens closes = absurd cc
  token_whole m bs k d (token.decide t) opens closes = absurd cc
  token_whole m bs k d (token.tag name) opens closes = refl
  token_whole m bs k d token.escape opens closes = refl

  pub found_whole : (k : Option Kind) (d : ℕ) (bs : List ℕ) (s : Scanned) → s ≡ scan profile bs → is_whole (list_at profile k d bs).0 ≡ is_whole (at_scan (list_at profile) s k d).0
  found_whole k d bs s e = ap (λ l. is_whole l.0) (list_found profile k d bs s e)

  pub end_whole : (k : Option Kind) (d : ℕ) → is_whole (at_scan (list_at profile) ended k d).0 ≡ is_none k
  unfolding is_whole
  end_whole None d = refl
  end_whole (Some k) d = refl
