-- Keeping a file under another name, by one draft after another.
use Rattle.std.proofs.Common.{◌≡◌, inl, inr, ℕ, List, Option, subst, ◌∙◌}
use Rattle.teco_fs.specs.Disk.{Changes, Files, IsKeepingBy, KeepsAs, Passes}
use Rattle.teco_fs.specs.Draft.{draft_beside}
use Rattle.teco_fs.specs.Writing.{AddsDrafts, IsKeeping, Keeps}

module _ {file backup : List ℕ} where
  -- after other drafts were tried
  keeps : {a b c : Files} → AddsDrafts file a b → KeepsAs file backup b c → Keeps file backup a c
  keeps p q = record {
    kept = q.kept ∙ p.same;
    files = λ other apart there. q.others other apart ∙ p.files other there;
    others = λ other apart no_draft. q.others other apart ∙ p.others other no_draft;
  }

  pub keeps_after : {name : List ℕ} {a b c : Option Files} → name ≡ backup → Changes a b (AddsDrafts file) → Changes b c (KeepsAs file name) → Changes a c (Keeps file backup)
  keeps_after is p q before told =
      let mid = p before told in
      let end = q mid.0 mid.1 in
      (end.0, end.1, keeps mid.2 (subst (λ name. KeepsAs file name mid.0 end.0) is end.2))

  module _ {draft : List ℕ} (number : ℕ) (named : draft ≡ draft_beside file number) where
    moment : {a b c : Files} → AddsDrafts file a b → IsKeepingBy file draft backup b c → IsKeeping file backup a c
    moment p q = record {
      backup_is = λ no_draft. elim q.backup_is [ inl was ↦ inl (was ∙ p.others backup no_draft) | inr now ↦ inr (now ∙ p.same) ];
      others = λ other apart no_draft. q.others other apart (λ e. no_draft (number, e ∙ named)) ∙ p.others other no_draft;
    }

    pub keeping_more : {name : List ℕ} {a b : Option Files} {l0 l1 l2 : Files → Type 0} → name ≡ backup → Changes a b (AddsDrafts file) → Passes a l0 l1 (IsKeeping file backup)
        → Passes b l1 l2 (IsKeepingBy file draft name) → Passes a l0 l2 (IsKeeping file backup)
    keeping_more is adds passes next before told now left =
        let mid = adds before told in
        elim (next mid.0 mid.1 now left) [
          | inl was ↦ passes before told now was
          | inr new ↦ inr (moment mid.2 (subst (λ name. IsKeepingBy file draft name mid.0 now) is new))
        ]
