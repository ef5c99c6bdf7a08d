use Rattle.std.proofs.Common.{sym, ◌∙◌, arith}
use Rattle.teco_check.proofs.Open.{below_some, below_none, below_zero}
use Rattle.teco_check.proofs.jumps.lands_below.Goals as goal

pub returns-then-is_some : goal.returns-then-is_some
returns-then-is_some c =
    sym (below_some c.args.tags.now.profile c.args.tags.now.bytes.now c.args.starts.now c.loop-below.below c.args.name.now c.find.result c.loop-below-test.true c.find.ensures.finds (sym c.is_some.ensures ∙ c.if-is_some.true)) ∙ c.loop-below.invariant.same

pub loop-below-preserved : goal.loop-below-preserved
loop-below-preserved c = record {
  few = omega (arith, c.loop-below.invariant.few);
  same = sym (below_none c.args.tags.now.profile c.args.tags.now.bytes.now c.args.starts.now c.loop-below.below c.args.name.now c.find.result c.loop-below-test.true c.find.ensures.finds (sym c.is_some.ensures ∙ c.if-is_some.false)) ∙ c.loop-below.invariant.same;
}

pub returns : goal.returns
returns c = below_zero c.args.tags.now.profile c.args.tags.now.bytes.now c.args.starts.now c.loop-below.below c.args.name.now c.loop-below-test.false ∙ c.loop-below.invariant.same
