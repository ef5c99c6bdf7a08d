-- What is remembered of a text, said of the text itself.
use mathlib.Core.HLevel.{is_prop→PathP}
use Rattle.std.proofs.Common.{◌≡◌, ◌≤◌, ℕ, All, Option, Some, Result, drop, length, subst, sym}
use Rattle.std.proofs.Props.{props}
use Rattle.teco_scan.specs.declared.text.Text.{Text}
use Rattle.teco_core.specs.declared.code.Code.{Code}
use Rattle.teco_scan.specs.declared.blocks.Kind.{Kind}
use Rattle.teco_scan.specs.declared.blocks.SkipEnd.{SkipEnd}
use Rattle.teco_scan.specs.declared.token.Span.{Span}
use Rattle.teco_scan.specs.Lists.{behind_block, list_at, tag_at}
use Rattle.teco_scan.specs.Seen.{bytes_in}
use Rattle.teco_scan.specs.Closes.{close_of, past_of, tag_of}
use Rattle.teco_exec.specs.declared.blocks.Block.{Block}
use Rattle.teco_exec.specs.declared.cursor.Cursor.{Cursor}

module _ {remembered text : Text} (is : remembered ≡ text) where
  pub closes_there : (r : Result SkipEnd Code) (k : Kind) (d at : ℕ) → close_of remembered.bytes.now r ≡ (list_at remembered.profile (Some k) d (drop at remembered.bytes.now)).1
      → close_of text.bytes.now r ≡ (list_at text.profile (Some k) d (drop at text.bytes.now)).1
  closes_there r k d at h = subst (λ (t : Text). close_of t.bytes.now r ≡ (list_at t.profile (Some k) d (drop at t.bytes.now)).1) is h

  pub passes_there : (r : Result ℕ Code) (k : Kind) (d at : ℕ) → past_of remembered.bytes.now r ≡ behind_block (list_at remembered.profile) k d (list_at remembered.profile (Some k) d (drop at remembered.bytes.now)).1
      → past_of text.bytes.now r ≡ behind_block (list_at text.profile) k d (list_at text.profile (Some k) d (drop at text.bytes.now)).1
  passes_there r k d at h = subst (λ (t : Text). past_of t.bytes.now r ≡ behind_block (list_at t.profile) k d (list_at t.profile (Some k) d (drop at t.bytes.now)).1) is h

  pub finds_there : (r : Option ℕ) (name : Span) (d at : ℕ) → tag_of remembered.bytes.now r ≡ tag_at remembered.profile (bytes_in remembered.bytes.now name) d (drop at remembered.bytes.now)
      → tag_of text.bytes.now r ≡ tag_at text.profile (bytes_in text.bytes.now name) d (drop at text.bytes.now)
  finds_there r name d at h = subst (λ (t : Text). tag_of t.bytes.now r ≡ tag_at t.profile (bytes_in t.bytes.now name) d (drop at t.bytes.now)) is h

  pub is_within : (n : ℕ) → n ≤ length text.bytes.now → n ≤ length remembered.bytes.now
  is_within n h = subst (λ (t : Text). n ≤ length t.bytes.now) (sym is) h

  pub within_there : (n : ℕ) → n ≤ length remembered.bytes.now → n ≤ length text.bytes.now
  within_there n h = subst (λ (t : Text). n ≤ length t.bytes.now) is h

-- Two cursors that have the same parts are the same: all else that they keep are facts.
pub same_cursor : (c d : Cursor) → c.text ≡ d.text → c.at ≡ d.at → c.args ≡ d.args → c.blocks ≡ d.blocks → c.remembered ≡ d.remembered → c ≡ d
same_cursor c d text at args blocks remembered = λ i. record {
  text = text i;
  at = at i;
  args = args i;
  blocks = blocks i;
  remembered = remembered i;
  within = is_prop→PathP (λ j. at j ≤ length (text j).bytes.now) (λ j. hlevel props) c.within d.within i;
  begin = is_prop→PathP (λ j. All (λ (b : Block). b.start ≤ length (text j).bytes.now) (blocks j)) (λ j. hlevel props) c.begin d.begin i;
  same = is_prop→PathP (λ j. remembered j ≡ text j) (λ j. hlevel props) c.same d.same i;
}
