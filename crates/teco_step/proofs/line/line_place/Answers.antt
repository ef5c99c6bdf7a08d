use Rattle.std.proofs.Common.{◌∙◌, ◌-◌, ◌++◌, ap, length, nat_abs, reverse, slice_get, sym, take, drop, w32}
use Rattle.std.proofs.lemmas.Int.{to_z-of_z}
use Rattle.teco_step.specs.Line.{one_past, line_ends_from}
use Rattle.teco_step.proofs.Lines.{line_above, line_not_above}
use Rattle.teco_step.proofs.line.line_place.Goals as goal

pub returns-then-n-gt0-clause-value : goal.returns-then-n-gt0-clause-value
returns-then-n-gt0-clause-value c =
    let text = c.args.before.now ++ c.args.after.now in
    c.line_ahead.ensures.value ∙ ap (λ n. one_past (slice_get (line_ends_from c.args.from (drop c.args.from text)) (n - 1)) (length text)) (c.unsigned_abs-skip.ensures.value ∙ ap nat_abs (to_z-of_z w32 c.args.n c.ranges.n))
    ∙ sym (line_above text c.args.from c.args.n c.requires (rw (to_z-of_z w32 c.args.n c.ranges.n) at c.if-n-gt0.true))

pub returns-clause-value : goal.returns-clause-value
returns-clause-value c =
    let text = c.args.before.now ++ c.args.after.now in
    c.line_back.ensures.value ∙ ap (λ n. one_past (slice_get (reverse (line_ends_from 0 (take c.args.from text))) n) 0) (c.unsigned_abs-skip.ensures.value ∙ ap nat_abs (to_z-of_z w32 c.args.n c.ranges.n))
    ∙ sym (line_not_above text c.args.from c.args.n c.requires (rw (to_z-of_z w32 c.args.n c.ranges.n) at c.if-n-gt0.false))
