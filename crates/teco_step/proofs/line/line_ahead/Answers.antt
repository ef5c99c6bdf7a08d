use Rattle.std.proofs.Common.{◌∙◌, ◌++◌, ◌+◌, ap, arith, drop, length, length-append, refl, slice_get, sym}
use Rattle.teco_step.specs.Line.{one_past, line_ends_from}
use Rattle.teco_step.proofs.Lines.{ahead_first, ahead_none, get_next}
use Rattle.teco_step.proofs.line.line_ahead.Goals as goal

pub returns-then-left-eq0-clause-value : goal.returns-then-left-eq0-clause-value
returns-then-left-eq0-clause-value c =
    let text = c.args.before.now ++ c.args.after.now in
    let first = ahead_first text c.ends.place c.in-Some.end c.in-Some.ensures in
    sym (ap (λ place. one_past place (length text)) (sym c.ends.invariant.same) ∙ rw (c.if-left-eq0.true, first) refl)

pub ends-preserved : goal.ends-preserved
ends-preserved c =
    let text = c.args.before.now ++ c.args.after.now in
    let first = ahead_first text c.ends.place c.in-Some.end c.in-Some.ensures in
    let end = c.in-Some.end in
    record {
      within = omega (arith, c.in-Some.ensures.0.high);
      same = sym (get_next end (line_ends_from (end + 1) (drop (end + 1) text)) c.ends.left (omega arith)) ∙ ap (λ ends. slice_get ends c.ends.left) (sym first) ∙ c.ends.invariant.same;
    }

pub returns-clause-value : goal.returns-clause-value
returns-clause-value c =
    let text = c.args.before.now ++ c.args.after.now in
    let none = ahead_none text c.ends.place c.ends.invariant.within c.in_default.ensures in
    sym (length-append c.args.before.now c.args.after.now) ∙ sym (ap (λ place. one_past place (length text)) (sym c.ends.invariant.same) ∙ rw none refl)
