-- A fault that breaks a list is one of the text.
use Rattle.std.proofs.Common.{◌≡◌, ℕ, suc, zero, Bool, true, false, List, length, Option, Some, None, Ok, Err, refl, subst}
use Rattle.std.specs.Prelude.{◌==◌, if◌then◌else◌}
use Rattle.teco_core.specs.declared.code.Code.{Code}
use Rattle.teco_scan.specs.declared.command.BlockMark.{BlockMark}
use Rattle.teco_scan.specs.declared.command.BlockMark.TheVariants.{Iterate, EndIteration, Otherwise, EndTest}
use Rattle.teco_scan.specs.declared.command.Modifiers.{Modifiers}
use Rattle.teco_scan.specs.declared.blocks.Kind.{Kind}
use Rattle.teco_scan.specs.declared.blocks.Kind.TheVariants.{Iter, Then, Else}
use Rattle.teco_core.specs.declared.code.Code.TheVariants.{Pdo}
use Rattle.teco_core.specs.declared.profile.Profile.{Profile}
use Rattle.teco_scan.specs.Scan.{Instruction, TokenMeaning, Scanned, found, ended, fault, scan}
use Rattle.teco_scan.specs.Scan as token
use Rattle.teco_scan.specs.Tree.{is_fault}
use Rattle.teco_scan.specs.Lists.{Close, closed, broken, Past, past, Listed, Lister, wrong, behind, second, at_mark, at_instruction, at_scan, list_within, list_at}
use Rattle.teco_scan.proofs.ScanFaults.{scan_fault}

-- a fault that breaks is one of the text
abbrev Textual : Close → Type 0
Textual (closed divided bs) = Unit {0}
Textual (broken c) = is_fault c ≡ true

abbrev TextualPast : Past → Type 0
TextualPast (Ok bs) = Unit {0}
TextualPast (Err c) = is_fault c ≡ true

past_textual : (x : Close) → Textual x → TextualPast (past x)
past_textual (closed divided bs) h = tt
past_textual (broken c) h = h

module _ (go : Lister) (h : (k : Option Kind) (d : ℕ) (bs : List ℕ) → Textual (go k d bs).1) where
  behind_textual : (k : Option Kind) (d : ℕ) (x : Past) → TextualPast x → Textual (behind go k d x).1
  behind_textual k d (Ok bs) e = h k d bs
  behind_textual k d (Err c) e = e

  second_textual : (d : ℕ) (x : Close) → Textual x → Textual (second go d x).1
  second_textual d (closed true bs) e = h (Some Else) d bs
  second_textual d (closed false bs) e = tt
  second_textual d (broken c) e = e

  opened_textual : (b : Bool) (l : Listed) → Textual l.1 → Textual (if b then wrong Pdo else l).1
  opened_textual true l e = refl
  opened_textual false l e = e

  mark_textual : (m : BlockMark) (bs : List ℕ) (k : Option Kind) (d : ℕ) → Textual (at_mark go m bs k d).1
  mark_textual Iterate bs k d = opened_textual (d == 64) _ (behind_textual k d (past (go (Some Iter) (suc d) bs).1) (past_textual (go (Some Iter) (suc d) bs).1 (h (Some Iter) (suc d) bs)))
  mark_textual EndIteration bs None d = refl
  mark_textual EndIteration bs (Some Iter) d = tt
  mark_textual EndIteration bs (Some Then) d = refl
  mark_textual EndIteration bs (Some Else) d = refl
  mark_textual Otherwise bs None d = refl
  mark_textual Otherwise bs (Some Iter) d = refl
  mark_textual Otherwise bs (Some Then) d = tt
  mark_textual Otherwise bs (Some Else) d = refl
  mark_textual EndTest bs None d = refl
  mark_textual EndTest bs (Some Iter) d = refl
  mark_textual EndTest bs (Some Then) d = tt
  mark_textual EndTest bs (Some Else) d = tt

  instruction_textual : (i : Instruction) (m : Modifiers) (bs : List ℕ) (k : Option Kind) (d : ℕ) → Textual (at_instruction go i m bs k d).1
  instruction_textual (token.step i) m bs k d = h k d bs
  instruction_textual (token.mark b) m bs k d = mark_textual b bs k d
  instruction_textual (token.decide t) m bs k d =
      opened_textual (d == 64) _ (behind_textual k d (past (second go (suc d) (go (Some Then) (suc d) bs).1).1)
      (past_textual (second go (suc d) (go (Some Then) (suc d) bs).1).1 (second_textual (suc d) (go (Some Then) (suc d) bs).1 (h (Some Then) (suc d) bs))))
  instruction_textual (token.tag name) m bs k d = h k d bs
  instruction_textual token.escape m bs k d = h k d bs

  scanned_textual : (s : Scanned) (k : Option Kind) (d : ℕ) → ((c : Code) → s ≡ fault c → is_fault c ≡ true) → Textual (at_scan go s k d).1
  scanned_textual ended None d e = refl
  scanned_textual ended (Some k) d e = refl
  scanned_textual (fault c) k d e = e c refl
  scanned_textual (found t bs) k d e = instruction_textual t.instruction t.modifiers bs k d

module _ (profile : Profile) where
  textual_within : (n : ℕ) (k : Option Kind) (d : ℕ) (bs : List ℕ) → Textual (list_within profile n k d bs).1
  unfolding list_within
  textual_within zero k d bs = refl
  textual_within (suc n) k d bs = scanned_textual (list_within profile n) (textual_within n) (scan profile bs) k d (scan_fault profile bs)

  list_textual : (k : Option Kind) (d : ℕ) (bs : List ℕ) → Textual (list_at profile k d bs).1
  unfolding list_at
  list_textual k d bs = textual_within (suc (length bs)) k d bs

  pub list_fault : (k : Option Kind) (d : ℕ) (bs : List ℕ) (c : Code) → (list_at profile k d bs).1 ≡ broken c → is_fault c ≡ true
  list_fault k d bs c e = subst Textual e (list_textual k d bs)
