use Rattle.teco_fs.specs.Disk.{SameBut}
use Rattle.teco_fs.proofs.FileLogs.{passes}
use Rattle.teco_fs.proofs.memory_disk.MemoryDiskDisk.make.Goals as goal

pub returns-clause-moments : goal.returns-clause-moments
returns-clause-moments c = passes c.args.self.now.log c.made-made.new.self (SameBut c.args.name.now) c.made-made.ensures.grows c.made-made.ensures.others
