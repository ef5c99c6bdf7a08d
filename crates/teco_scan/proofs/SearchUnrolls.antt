-- The search for a tag, token by token.
use Rattle.std.proofs.Common.{◌≡◌, ℕ, suc, zero, ◌<◌, List, length, Some, Ok, Err, refl, ap, arith}
use Rattle.std.specs.Prelude.{if◌then◌else◌}
use Rattle.std.specs.Str.{bytes_eq}
use Rattle.teco_scan.specs.declared.command.BlockMark.TheVariants.{Iterate, EndIteration, Otherwise, EndTest}
use Rattle.teco_scan.specs.declared.blocks.Kind.{Kind}
use Rattle.teco_scan.specs.declared.blocks.Kind.TheVariants.{Iter, Then, Else}
use Rattle.teco_core.specs.declared.profile.Profile.{Profile}
use Rattle.teco_scan.specs.Scan.{Instruction, TokenMeaning, Scanned, found, ended, fault, scan}
use Rattle.teco_scan.specs.Scan as token
use Rattle.teco_scan.specs.Lists.{Past, behind_block, list_at, Finder, tag_behind, tag_opened, tag_at_instruction, tag_at_scan, tag_within, tag_at}
use Rattle.teco_scan.proofs.ListUnrolls.{PastWithin, past_within, second_short, list_short}
use Rattle.teco_scan.proofs.TokenShortens.{scan_short}

module _ (profile : Profile) where
  pub block_short : (kind : Kind) (d : ℕ) (bs : List ℕ) → PastWithin (length bs) (behind_block (list_at profile) kind d (list_at profile (Some kind) d bs).1)
  block_short Iter d bs = past_within (length bs) (list_at profile (Some Iter) d bs).1 (list_short profile (Some Iter) d bs)
  block_short Then d bs = past_within (length bs) _ (second_short (list_at profile) (list_short profile) d (length bs) (list_at profile (Some Then) d bs).1 (list_short profile (Some Then) d bs))
  block_short Else d bs = past_within (length bs) (list_at profile (Some Else) d bs).1 (list_short profile (Some Else) d bs)

abbrev Agree : ℕ → Finder → Finder → Type 0
Agree n go went = (d : ℕ) (bs : List ℕ) → length bs < n → go d bs ≡ went d bs

module _ (profile : Profile) where
  module _ (n : ℕ) (name : List ℕ) (go went : Finder) (same : Agree n go went) where
    behind_same : (d m : ℕ) (c : Past) → PastWithin m c → m < n → tag_behind go d c ≡ tag_behind went d c
    behind_same d m (Ok bs) lt less = same d bs (omega arith)
    behind_same d m (Err c) lt less = refl

    instruction_same : (i : Instruction) (bs : List ℕ) (d : ℕ) → length bs < n → tag_at_instruction profile name go i bs d ≡ tag_at_instruction profile name went i bs d
    instruction_same (token.step i) bs d lt = same d bs lt
    instruction_same (token.mark Iterate) bs d lt = ap (tag_opened d) (behind_same d (length bs) (behind_block (list_at profile) Iter (suc d) (list_at profile (Some Iter) (suc d) bs).1) (block_short profile Iter (suc d) bs) lt)
    instruction_same (token.mark EndIteration) bs d lt = refl
    instruction_same (token.mark Otherwise) bs d lt = refl
    instruction_same (token.mark EndTest) bs d lt = refl
    instruction_same (token.decide t) bs d lt = ap (tag_opened d) (behind_same d (length bs) (behind_block (list_at profile) Then (suc d) (list_at profile (Some Then) (suc d) bs).1) (block_short profile Then (suc d) bs) lt)
    instruction_same (token.tag other) bs d lt = ap (λ o. if bytes_eq other name then Some bs else o) (same d bs lt)
    instruction_same token.escape bs d lt = same d bs lt

    scanned_same : (s : Scanned) (d : ℕ) → ((t : TokenMeaning) (more : List ℕ) → s ≡ found t more → length more < n) → tag_at_scan profile name go s d ≡ tag_at_scan profile name went s d
    scanned_same ended d lt = refl
    scanned_same (fault c) d lt = refl
    scanned_same (found t bs) d lt = instruction_same t.instruction bs d (lt t bs refl)

  tags_agree : (name : List ℕ) (n m : ℕ) (d : ℕ) (bs : List ℕ) → length bs < n → length bs < m → tag_within profile n name d bs ≡ tag_within profile m name d bs
  unfolding tag_within
  tags_agree name zero m d bs p q = absurd (omega arith)
  tags_agree name (suc n) zero d bs p q = absurd (omega arith)
  tags_agree name (suc n) (suc m) d bs p q =
      scanned_same (length bs) name (tag_within profile n name) (tag_within profile m name) (λ d more lt. tags_agree name n m d more (omega arith) (omega arith)) (scan profile bs) d (scan_short profile bs)

  -- the equation that the definition is meant by
  pub tag_step : (name : List ℕ) (d : ℕ) (bs : List ℕ) → tag_at profile name d bs ≡ tag_at_scan profile name (tag_at profile name) (scan profile bs) d
  unfolding tag_at tag_within
  tag_step name d bs =
      scanned_same (length bs) name (tag_within profile (length bs) name) (tag_at profile name) (λ d more lt. tags_agree name (length bs) (suc (length more)) d more lt (omega arith)) (scan profile bs) d (scan_short profile bs)
