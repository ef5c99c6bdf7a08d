-- What a list is, token by token.
use Rattle.std.proofs.Common.{◌≡◌, ℕ, suc, zero, ◌<◌, ◌≤◌, Bool, true, false, List, length, Option, Some, None, Ok, Err, refl, ap, ◌∙◌, arith}
use Rattle.std.specs.Prelude.{◌==◌, if◌then◌else◌}
use Rattle.teco_core.specs.declared.code.Code.TheVariants.{Pdo}
use Rattle.teco_scan.specs.declared.command.Modifiers.{Modifiers}
use Rattle.teco_scan.specs.declared.command.Test.{Test}
use Rattle.teco_scan.specs.declared.command.BlockMark.{BlockMark}
use Rattle.teco_scan.specs.declared.command.BlockMark.TheVariants.{Iterate, EndIteration, Otherwise, EndTest}
use Rattle.teco_scan.specs.declared.blocks.Kind.{Kind}
use Rattle.teco_scan.specs.declared.blocks.Kind.TheVariants.{Iter, Then, Else}
use Rattle.teco_core.specs.declared.profile.Profile.{Profile}
use Rattle.teco_scan.specs.Scan.{Instruction, TokenMeaning, Scanned, found, ended, fault, scan}
use Rattle.teco_scan.specs.Scan as token
use Rattle.teco_scan.specs.Tree.{item, iter, cond, tag, escape}
use Rattle.teco_scan.specs.Lists.{Close, closed, broken, Past, past, Listed, Lister, wrong, behind, put, second, iter_at, cond_at, opened, at_mark, at_instruction, at_scan, list_within, list_at}
use Rattle.teco_scan.specs.ListLaws.{Within}
use Rattle.teco_scan.proofs.TokenShortens.{scan_short}

abbrev pub PastWithin : ℕ → Past → Type 0
PastWithin n (Ok bs) = length bs < n
PastWithin n (Err c) = Unit {0}

pub past_within : (n : ℕ) (c : Close) → Within n c → PastWithin n (past c)
past_within n (closed b bs) h = h
past_within n (broken c) h = tt

pub within_more : (n m : ℕ) (c : Close) → n ≤ m → Within n c → Within m c
within_more n m (closed b bs) le h = omega arith
within_more n m (broken c) le h = tt

abbrev Shrinks : Lister → Type 0
Shrinks go = (k : Option Kind) (d : ℕ) (bs : List ℕ) → Within (length bs) (go k d bs).1

abbrev Agree : ℕ → Lister → Lister → Type 0
Agree n go went = (k : Option Kind) (d : ℕ) (bs : List ℕ) → length bs < n → go k d bs ≡ went k d bs

module _ (go : Lister) (h : Shrinks go) where
  behind_short : (k : Option Kind) (d n : ℕ) (c : Past) → PastWithin n c → Within n (behind go k d c).1
  behind_short k d n (Ok bs) lt = within_more (length bs) n (go k d bs).1 (omega arith) (h k d bs)
  behind_short k d n (Err c) lt = tt

  pub second_short : (d n : ℕ) (c : Close) → Within n c → Within n (second go d c).1
  second_short d n (closed true bs) lt = within_more (length bs) n (go (Some Else) d bs).1 (omega arith) (h (Some Else) d bs)
  second_short d n (closed false bs) lt = lt
  second_short d n (broken c) lt = tt

  opened_short : (b : Bool) (n : ℕ) (l : Listed) → Within n l.1 → Within n (if b then wrong Pdo else l).1
  opened_short true n l w = tt
  opened_short false n l w = w

  mark_short : (m : BlockMark) (bs : List ℕ) (k : Option Kind) (d n : ℕ) → length bs < n → Within n (at_mark go m bs k d).1
  mark_short Iterate bs k d n lt = opened_short (d == 64) n _ (behind_short k d n (past (go (Some Iter) (suc d) bs).1) (past_within n (go (Some Iter) (suc d) bs).1 (within_more (length bs) n (go (Some Iter) (suc d) bs).1 (omega arith) (h (Some Iter) (suc d) bs))))
  mark_short EndIteration bs None d n lt = tt
  mark_short EndIteration bs (Some Iter) d n lt = lt
  mark_short EndIteration bs (Some Then) d n lt = tt
  mark_short EndIteration bs (Some Else) d n lt = tt
  mark_short Otherwise bs None d n lt = tt
  mark_short Otherwise bs (Some Iter) d n lt = tt
  mark_short Otherwise bs (Some Then) d n lt = lt
  mark_short Otherwise bs (Some Else) d n lt = tt
  mark_short EndTest bs None d n lt = tt
  mark_short EndTest bs (Some Iter) d n lt = tt
  mark_short EndTest bs (Some Then) d n lt = lt
  mark_short EndTest bs (Some Else) d n lt = lt

  instruction_short : (i : Instruction) (m : Modifiers) (bs : List ℕ) (k : Option Kind) (d n : ℕ) → length bs < n → Within n (at_instruction go i m bs k d).1
  instruction_short (token.step i) m bs k d n lt = within_more (length bs) n (go k d bs).1 (omega arith) (h k d bs)
  instruction_short (token.mark b) m bs k d n lt = mark_short b bs k d n lt
  instruction_short (token.decide t) m bs k d n lt =
      let one : Listed = go (Some Then) (suc d) bs in
      opened_short (d == 64) n _ (behind_short k d n (past (second go (suc d) one.1).1) (past_within n (second go (suc d) one.1).1 (second_short (suc d) n one.1 (within_more (length bs) n one.1 (omega arith) (h (Some Then) (suc d) bs)))))
  instruction_short (token.tag name) m bs k d n lt = within_more (length bs) n (go k d bs).1 (omega arith) (h k d bs)
  instruction_short token.escape m bs k d n lt = within_more (length bs) n (go k d bs).1 (omega arith) (h k d bs)

  scan_within : (s : Scanned) (k : Option Kind) (d n : ℕ) → ((t : TokenMeaning) (more : List ℕ) → s ≡ found t more → length more < n) → Within n (at_scan go s k d).1
  scan_within ended None d n lt = tt
  scan_within ended (Some k) d n lt = tt
  scan_within (fault c) k d n lt = tt
  scan_within (found t bs) k d n lt = instruction_short t.instruction t.modifiers bs k d n (lt t bs refl)

module _ (profile : Profile) where
  lists_shrink : (n : ℕ) → Shrinks (list_within profile n)
  unfolding list_within
  lists_shrink zero k d bs = tt
  lists_shrink (suc n) k d bs = scan_within (list_within profile n) (lists_shrink n) (scan profile bs) k d (length bs) (scan_short profile bs)

  pub list_short : Shrinks (list_at profile)
  unfolding list_at
  list_short k d bs = lists_shrink (suc (length bs)) k d bs

module _ (n : ℕ) (go went : Lister) (h : Shrinks go) (same : Agree n go went) where
  behind_same : (k : Option Kind) (d : ℕ) (c : Past) → PastWithin n c → behind go k d c ≡ behind went k d c
  behind_same k d (Ok bs) lt = same k d bs lt
  behind_same k d (Err c) lt = refl

  second_same : (d : ℕ) (c : Close) → Within n c → second go d c ≡ second went d c
  second_same d (closed true bs) lt = same (Some Else) d bs lt
  second_same d (closed false bs) lt = refl
  second_same d (broken c) lt = refl

  iter_same : (k : Option Kind) (d : ℕ) (l : Listed) → Within n l.1 → iter_at go k d l ≡ iter_at went k d l
  iter_same k d l w = ap (put (iter l.0)) (behind_same k d (past l.1) (past_within n l.1 w))

  cond_same : (k : Option Kind) (d : ℕ) (t : Test) (l : Listed) → Within n l.1 → cond_at go k d t l ≡ cond_at went k d t l
  cond_same k d t l w =
      ap (put (cond t l.0 (second go (suc d) l.1).0)) (behind_same k d (past (second go (suc d) l.1).1) (past_within n (second go (suc d) l.1).1 (second_short go h (suc d) n l.1 w)))
      ∙ ap (λ (o : Listed). put (cond t l.0 o.0) (behind went k d (past o.1))) (second_same (suc d) l.1 w)

  mark_same : (m : BlockMark) (bs : List ℕ) (k : Option Kind) (d : ℕ) → length bs < n → at_mark go m bs k d ≡ at_mark went m bs k d
  mark_same Iterate bs k d lt = ap (opened d) (iter_same k d (go (Some Iter) (suc d) bs) (within_more (length bs) n (go (Some Iter) (suc d) bs).1 (omega arith) (h (Some Iter) (suc d) bs)) ∙ ap (iter_at went k d) (same (Some Iter) (suc d) bs lt))
  mark_same EndIteration bs None d lt = refl
  mark_same EndIteration bs (Some Iter) d lt = refl
  mark_same EndIteration bs (Some Then) d lt = refl
  mark_same EndIteration bs (Some Else) d lt = refl
  mark_same Otherwise bs None d lt = refl
  mark_same Otherwise bs (Some Iter) d lt = refl
  mark_same Otherwise bs (Some Then) d lt = refl
  mark_same Otherwise bs (Some Else) d lt = refl
  mark_same EndTest bs None d lt = refl
  mark_same EndTest bs (Some Iter) d lt = refl
  mark_same EndTest bs (Some Then) d lt = refl
  mark_same EndTest bs (Some Else) d lt = refl

  instruction_same : (i : Instruction) (m : Modifiers) (bs : List ℕ) (k : Option Kind) (d : ℕ) → length bs < n → at_instruction go i m bs k d ≡ at_instruction went i m bs k d
  instruction_same (token.step i) m bs k d lt = ap (put (item m i)) (same k d bs lt)
  instruction_same (token.mark b) m bs k d lt = mark_same b bs k d lt
  instruction_same (token.decide t) m bs k d lt = ap (opened d) (cond_same k d t (go (Some Then) (suc d) bs) (within_more (length bs) n (go (Some Then) (suc d) bs).1 (omega arith) (h (Some Then) (suc d) bs)) ∙ ap (cond_at went k d t) (same (Some Then) (suc d) bs lt))
  instruction_same (token.tag name) m bs k d lt = ap (put (tag name)) (same k d bs lt)
  instruction_same token.escape m bs k d lt = ap (put escape) (same k d bs lt)

  scanned_same : (s : Scanned) (k : Option Kind) (d : ℕ) → ((t : TokenMeaning) (more : List ℕ) → s ≡ found t more → length more < n) → at_scan go s k d ≡ at_scan went s k d
  scanned_same ended None d lt = refl
  scanned_same ended (Some k) d lt = refl
  scanned_same (fault c) k d lt = refl
  scanned_same (found t bs) k d lt = instruction_same t.instruction t.modifiers bs k d (lt t bs refl)

module _ (profile : Profile) where
  lists_agree : (n m : ℕ) (k : Option Kind) (d : ℕ) (bs : List ℕ) → length bs < n → length bs < m → list_within profile n k d bs ≡ list_within profile m k d bs
  unfolding list_within
  lists_agree zero m k d bs p q = absurd (omega arith)
  lists_agree (suc n) zero k d bs p q = absurd (omega arith)
  lists_agree (suc n) (suc m) k d bs p q =
      scanned_same (length bs) (list_within profile n) (list_within profile m) (lists_shrink profile n) (λ k d more lt. lists_agree n m k d more (omega arith) (omega arith)) (scan profile bs) k d (scan_short profile bs)

  -- the equation that the definition is meant by
  pub list_step : (k : Option Kind) (d : ℕ) (bs : List ℕ) → list_at profile k d bs ≡ at_scan (list_at profile) (scan profile bs) k d
  unfolding list_at list_within
  list_step k d bs =
      scanned_same (length bs) (list_within profile (length bs)) (list_at profile) (lists_shrink profile (length bs)) (λ k d more lt. lists_agree (length bs) (suc (length more)) k d more lt (omega arith)) (scan profile bs) k d (scan_short profile bs)
