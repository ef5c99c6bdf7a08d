-- The search for a tag leads to what the list has after it.
use Rattle.std.proofs.Common.{◌≡◌, ℕ, zero, suc, ◌<◌, Bool, true, false, List, length, Option, Some, None, refl, sym, ap, ◌∙◌, subst, arith}
use Rattle.std.specs.Prelude.{◌==◌, if◌then◌else◌}
use Rattle.std.specs.Str.{bytes_eq}
use Rattle.teco_core.specs.declared.code.Code.TheVariants.{Pdo}
use Rattle.teco_scan.specs.declared.command.BlockMark.{BlockMark}
use Rattle.teco_scan.specs.declared.command.BlockMark.TheVariants.{Iterate, EndIteration, Otherwise, EndTest}
use Rattle.teco_scan.specs.declared.blocks.Kind.{Kind}
use Rattle.teco_scan.specs.declared.blocks.Kind.TheVariants.{Iter, Then, Else}
use Rattle.teco_core.specs.declared.profile.Profile.{Profile}
use Rattle.teco_scan.specs.Scan.{Instruction, TokenMeaning, Scanned, found, ended, fault, scan}
use Rattle.teco_scan.specs.Scan as token
use Rattle.teco_scan.specs.Tree.{Nodes, after_tag}
use Rattle.teco_scan.specs.Tree as node
use Rattle.teco_scan.specs.Lists.{Close, closed, broken, put, past, Listed, Finder, wrong, behind, second, at_mark, at_instruction, at_scan, list_at, tag_behind, tag_at_instruction, tag_at_scan, tag_within, tag_at}
use Rattle.teco_scan.specs.ListLaws.{Within, Finds}
use Rattle.teco_scan.proofs.ListUnrolls.{list_step, list_short, within_more, second_short}
use Rattle.teco_scan.proofs.TokenShortens.{scan_short}

module _ (profile : Profile) where
  module _ (name : List ℕ) (go : Finder) (n : ℕ) (h : (k : Option Kind) (d : ℕ) (bs : List ℕ) → length bs < n → Finds profile name k d (list_at profile k d bs) (go d bs)) (k : Option Kind) (d : ℕ) where
    -- a node in front that is no such tag
    front_finds : (f : Nodes → Nodes) (l : Listed) (o : Option (List ℕ)) → ((m : Nodes) → after_tag name (f m) ≡ after_tag name m) → Finds profile name k d l o → Finds profile name k d (f l.0, l.1) o
    front_finds f l None same e = same l.0 ∙ e
    front_finds f l (Some bs) same e = (same l.0 ∙ e.0, e.1)

    behind_finds : (x : Close) → Within n x → Finds profile name k d (behind (list_at profile) k d (past x)) (tag_behind go d (past x))
    behind_finds (closed b bs) lt = h k d bs lt
    behind_finds (broken c) lt = refl

    opened_finds : (b : Bool) (l : Listed) (o : Option (List ℕ)) → Finds profile name k d l o → Finds profile name k d (if b then wrong Pdo else l) (if b then None else o)
    opened_finds true l o e = refl
    opened_finds false l o e = e

    tag_finds : (b : Bool) (other bs : List ℕ) → bytes_eq other name ≡ b → length bs < n → Finds profile name k d (put (node.tag other) (list_at profile k d bs)) (if b then Some bs else go d bs)
    tag_finds true other bs e lt = (ap (λ (b : Bool). if b then Some (list_at profile k d bs).0 else after_tag name (list_at profile k d bs).0) e, refl)
    tag_finds false other bs e lt = front_finds (node.tag other) (list_at profile k d bs) (go d bs) (λ m. ap (λ (b : Bool). if b then Some m else after_tag name m) e) (h k d bs lt)

    mark_finds : (m : BlockMark) (bs : List ℕ) → length bs < n → Finds profile name k d (at_mark (list_at profile) m bs k d) (tag_at_instruction profile name go (token.mark m) bs d)
    mark_finds Iterate bs lt =
        let body : Listed = list_at profile (Some Iter) (suc d) bs in
        opened_finds (d == 64) _ _ (front_finds (node.iter body.0) (behind (list_at profile) k d (past body.1)) (tag_behind go d (past body.1)) (λ m. refl)
        (behind_finds body.1 (within_more (length bs) n body.1 (omega arith) (list_short profile (Some Iter) (suc d) bs))))
    mark_finds EndIteration bs lt = ends k
      where
        ends : (k : Option Kind) → after_tag name (at_mark (list_at profile) EndIteration bs k d).0 ≡ None
        ends None = refl
        ends (Some Iter) = refl
        ends (Some Then) = refl
        ends (Some Else) = refl
    mark_finds Otherwise bs lt = ends k
      where
        ends : (k : Option Kind) → after_tag name (at_mark (list_at profile) Otherwise bs k d).0 ≡ None
        ends None = refl
        ends (Some Iter) = refl
        ends (Some Then) = refl
        ends (Some Else) = refl
    mark_finds EndTest bs lt = ends k
      where
        ends : (k : Option Kind) → after_tag name (at_mark (list_at profile) EndTest bs k d).0 ≡ None
        ends None = refl
        ends (Some Iter) = refl
        ends (Some Then) = refl
        ends (Some Else) = refl

    scanned_finds : (s : Scanned) → ((t : TokenMeaning) (more : List ℕ) → s ≡ found t more → length more < n) → Finds profile name k d (at_scan (list_at profile) s k d) (tag_at_scan profile name go s d)
    scanned_finds ended lt = ends k
      where
        ends : (k : Option Kind) → after_tag name (at_scan (list_at profile) ended k d).0 ≡ None
        ends None = refl
        ends (Some k) = refl
    scanned_finds (fault c) lt = refl
    scanned_finds (found t bs) lt = instruction t.instruction (lt t bs refl)
      where
        instruction : (i : Instruction) → length bs < n → Finds profile name k d (at_instruction (list_at profile) i t.modifiers bs k d) (tag_at_instruction profile name go i bs d)
        instruction (token.step i) lt = front_finds (node.item t.modifiers i) (list_at profile k d bs) (go d bs) (λ m. refl) (h k d bs lt)
        instruction (token.mark m) lt = mark_finds m bs lt
        instruction (token.decide t) lt =
            let one : Listed = list_at profile (Some Then) (suc d) bs in
            let other : Listed = second (list_at profile) (suc d) one.1 in
            opened_finds (d == 64) _ _ (front_finds (node.cond t one.0 other.0) (behind (list_at profile) k d (past other.1)) (tag_behind go d (past other.1)) (λ m. refl)
            (behind_finds other.1 (second_short (list_at profile) (list_short profile) (suc d) n one.1 (within_more (length bs) n one.1 (omega arith) (list_short profile (Some Then) (suc d) bs)))))
        instruction (token.tag other) lt = tag_finds (bytes_eq other name) other bs refl lt
        instruction token.escape lt = front_finds node.escape (list_at profile k d bs) (go d bs) (λ m. refl) (h k d bs lt)

  finds_within : (name : List ℕ) (n : ℕ) (k : Option Kind) (d : ℕ) (bs : List ℕ) → length bs < n → Finds profile name k d (list_at profile k d bs) (tag_within profile n name d bs)
  unfolding tag_within
  finds_within name zero k d bs lt = absurd (omega arith)
  finds_within name (suc n) k d bs lt =
      subst (λ (l : Listed). Finds profile name k d l (tag_within profile (suc n) name d bs)) (sym (list_step profile k d bs))
      (scanned_finds name (tag_within profile n name) n (finds_within name n) k d (scan profile bs) (λ t more is. omega (arith, scan_short profile bs t more is)))

  -- the bytes after a tag lead to what is after it in the list
  pub tag_leads : (name : List ℕ) (k : Option Kind) (d : ℕ) (bs : List ℕ) → Finds profile name k d (list_at profile k d bs) (tag_at profile name d bs)
  unfolding tag_at
  tag_leads name k d bs = finds_within name (suc (length bs)) k d bs (omega arith)
