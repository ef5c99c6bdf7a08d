use Rattle.std.proofs.Common.{arith}
use Rattle.teco_debugger.proofs.Watched.{none_between}
use Rattle.teco_debugger.proofs.watching.last_other.Goals as goal

pub loop-left-init : goal.loop-left-init
loop-left-init c = record {
  string = c.requires;
  within = omega (arith, c.steps-left.ensures);
  passed = none_between c.args.watch.now c.args.walk.now _ _ (omega (arith, c.steps-left.ensures));
}
