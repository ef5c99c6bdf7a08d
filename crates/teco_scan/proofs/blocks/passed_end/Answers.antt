use Rattle.std.proofs.Common.{arith}
use Rattle.teco_scan.proofs.Passing.{passed_on}
use Rattle.teco_scan.proofs.blocks.passed_end.Goals as goal

pub loop-to-preserved : goal.loop-to-preserved
loop-to-preserved c = record {
  past = omega (arith, c.loop-to.invariant.past);
  within = omega (arith, c.loop-to-test.true);
  alike = passed_on c.args.text.now c.args.at c.loop-to.to c.loop-to-test.true c.loop-to.invariant.alike (c.is_passed.ensures c.if-is_passed.true);
}
