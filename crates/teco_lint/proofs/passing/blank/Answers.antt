use Rattle.std.proofs.Common.{◌≡◌, ◌-◌, ℕ, min, inl, inr, refl, ap, ◌∙◌, arith}
use Rattle.std.specs.Prelude.{vec_len}
use Rattle.teco_lint.specs.Faults.{blanked}
use Rattle.teco_lint.proofs.Blanks.{blanked_more, blanked_none}
use Rattle.teco_lint.proofs.passing.blank.Goals as goal

pub loop-at-init : goal.loop-at-init
loop-at-init c = record { from = omega arith; to = inl refl; items = blanked_none c.args.span.from c.args.text.now.items; len = refl }

pub loop-at-preserved : goal.loop-at-preserved
loop-at-preserved c = record {
  from = omega (arith, c.loop-at.invariant.from);
  to = inr (omega arith);
  items = blanked_more c.args.span.from c.loop-at.at c.args.text.now.items c.loop-at.text.items c.loop-at.invariant.from (omega arith) c.loop-at.invariant.items;
  len = c.loop-at.invariant.len;
}

pub returns-clause-items : goal.returns-clause-items
returns-clause-items c =
    let n : c.loop-at.at - c.args.span.from ≡ min c.args.span.to (vec_len c.args.text.now) - c.args.span.from = elim c.loop-at.invariant.to [
      | inl none ↦ omega (arith, none)
      | inr some ↦ omega (arith, some, c.loop-at.invariant.from)
    ] in
    c.loop-at.invariant.items ∙ ap (λ (k : ℕ). blanked c.args.span.from k c.args.text.now.items) n
