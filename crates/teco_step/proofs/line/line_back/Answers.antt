use Rattle.std.proofs.Common.{◌∙◌, ◌++◌, ap, arith, reverse, refl, slice_get, sym, take}
use Rattle.teco_step.specs.Line.{one_past, line_ends_from}
use Rattle.teco_step.proofs.Lines.{back_last, back_none, get_next}
use Rattle.teco_step.proofs.line.line_back.Goals as goal

pub returns-then-left-eq0-clause-value : goal.returns-then-left-eq0-clause-value
returns-then-left-eq0-clause-value c =
    let text = c.args.before.now ++ c.args.after.now in
    let last = back_last text c.ends.place c.in-Some.end c.ends.invariant.within c.in-Some.ensures in
    sym (ap (λ place. one_past place 0) (sym c.ends.invariant.same) ∙ rw (c.if-left-eq0.true, last) refl)

pub ends-preserved : goal.ends-preserved
ends-preserved c =
    let text = c.args.before.now ++ c.args.after.now in
    let last = back_last text c.ends.place c.in-Some.end c.ends.invariant.within c.in-Some.ensures in
    let end = c.in-Some.end in
    record {
      within = omega (arith, c.in-Some.ensures.0.high, c.ends.invariant.within);
      same = sym (get_next end (reverse (line_ends_from 0 (take end text))) c.ends.left (omega arith)) ∙ ap (λ ends. slice_get ends c.ends.left) (sym last) ∙ c.ends.invariant.same;
    }

pub returns-clause-value : goal.returns-clause-value
returns-clause-value c =
    let text = c.args.before.now ++ c.args.after.now in
    let none = back_none text c.ends.place c.ends.invariant.within c.in_default.ensures in
    sym (ap (λ place. one_past place 0) (sym c.ends.invariant.same) ∙ rw none refl)
