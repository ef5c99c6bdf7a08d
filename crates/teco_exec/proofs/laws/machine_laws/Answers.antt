use Rattle.teco_exec.proofs.MachineMeans.{machine_means, machine_follows}
use Rattle.teco_exec.proofs.laws.machine_laws.Goals as goal

pub returns : goal.returns
returns c = record {
  means = machine_means c.block_laws.ensures c.effect_laws.ensures.leave;
  follows = machine_follows c.block_laws.ensures c.effect_laws.ensures.leave;
}
