use Rattle.teco_source.proofs.Writing.{one_space}
use Rattle.teco_source.proofs.writer.push_spaces.Goals as goal

pub loop-preserved : goal.loop-preserved
loop-preserved c = rw (c.in_ok-push.ensures.items, c.loop.invariant) (one_space c.args.out.now.items c.loop.counter)
