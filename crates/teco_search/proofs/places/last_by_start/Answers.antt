use Rattle.std.proofs.Common.{◌≡◌, ◌+◌, ◌-◌, ◌<◌, ◌≤◌, ◌⊎◌, ℕ, length, inl, inr, subst, arith}
use Rattle.std.specs.Prelude.{IfOk, IfSome}
use Rattle.std.proofs.lemmas.Result.{IfOk-weaker}
use Rattle.teco_search.specs.Occurrence.{looked_for, BeginsBackward, backward}
use Rattle.teco_search.specs.Anchor.{FindsLastBelow}
use Rattle.teco_search.proofs.Anchored.{begins_by_start, within_by}
use Rattle.teco_search.proofs.places.last_by_start.Goals as goal
use Rattle.teco_search.proofs.places.last_by_start.Goals.{then-anchor-len, else-anchor-len}

-- the anchors of the starts by a place, where they are within the text
record AreBelow (from offset len below : ℕ) : Type 0 where
  into : (k : ℕ) → k ≤ from → k + offset < len → k + offset < below
  out : (k : ℕ) → k + offset < below → k ≤ from

below_of : (from offset len below : ℕ) → ((offset < len - from) × (below ≡ from + offset + 1)) ⊎ ((len - from ≤ offset) × (below ≡ len)) → AreBelow from offset len below
below_of from offset len below (inl here) = let same = here.1 in record { into = λ k low inside. omega arith; out = λ k under. omega arith }
below_of from offset len below (inr past) = let room = past.0 in let same = past.1 in record { into = λ k low inside. omega arith; out = λ k under. omega arith }

pub returns-clause-value : goal.returns-clause-value
returns-clause-value g c =
    let below : AreBelow c.args.from c.args.anchor.now.offset c.len-len.result c.if-anchor-len.below = below_of c.args.from c.args.anchor.now.offset c.len-len.result c.if-anchor-len.below (elim c.if-anchor-len.branch [
      | then-anchor-len w ↦ inl (w.if-anchor-len.true, w.below-is)
      | else-anchor-len w ↦ inr (w.if-anchor-len.false, w.below-is)
    ]) in
    let sought = looked_for c.args.mode c.args.elements.now in
    let text = c.args.text.now in
    let Finds = FindsLastBelow sought text c.args.anchor.now.offset c.if-anchor-len.below in
    IfOk-weaker c.last_below.result (Finds (length text)) (BeginsBackward sought text (backward sought text c.args.from))
    (λ found last. begins_by_start c.args.mode c.args.elements.now c.args.anchor.now c.requires.anchored text c.args.from c.if-anchor-len.below found
    (λ k low inside. below.into k low (omega (arith, c.len-len.ensures.value))) below.out last)
    (subst (λ n. IfOk c.last_below.result (Finds n)) c.len-len.ensures.value c.last_below.ensures)

pub returns-clause-within : goal.returns-clause-within
returns-clause-within g c =
    let sought = looked_for c.args.mode c.args.elements.now in
    let text = c.args.text.now in
    let Finds = FindsLastBelow sought text c.args.anchor.now.offset c.if-anchor-len.below in
    IfOk-weaker c.last_below.result (Finds (length text)) (λ found. IfSome found (λ m. (m.0 < m.1) × (m.1 ≤ length text)))
    (λ found last. within_by c.args.mode c.args.elements.now c.args.anchor.now c.requires.anchored text c.if-anchor-len.below (length text) found last)
    (subst (λ n. IfOk c.last_below.result (Finds n)) c.len-len.ensures.value c.last_below.ensures)
