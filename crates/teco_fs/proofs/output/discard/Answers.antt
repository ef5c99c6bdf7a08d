use Rattle.teco_fs.proofs.Disks.{one_of}
use Rattle.teco_fs.proofs.output.discard.Goals as goal

pub returns-clause-removed : goal.returns-clause-removed
returns-clause-removed g c = one_of c.remove.result c.remove.ensures.ok c.remove.ensures.err
