use Rattle.std.proofs.Common.{inl, inr}
use Rattle.teco_debugger.proofs.running.program.Goals as goal
use Rattle.teco_debugger.proofs.running.program.Goals.{in-Ok-retrace, in-Err-retrace}

pub returns-after-retrace : goal.returns-after-retrace
returns-after-retrace g c = inr (record {
  line = c.in-Ok.line;
  line_is = c.in-Ok.ensures.line;
  ending = c.match-retrace.ending;
  between = c.retrace.new.errors;
  run = elim c.match-retrace.branch [
    | in-Ok-retrace w ↦ record { keeps = c.retrace.ensures.keeps; ends = inr (rw w.ending-is w.in-Ok-retrace.ensures.serves) }
    | in-Err-retrace w ↦ record { keeps = c.retrace.ensures.keeps; ends = inl (rw w.ending-is w.in-Err-retrace.ensures.lacks) }
  ];
  end = rw c.from.ensures c.conclude.ensures;
})
