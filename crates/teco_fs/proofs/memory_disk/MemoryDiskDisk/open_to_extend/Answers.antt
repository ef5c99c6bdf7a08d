use Rattle.std.proofs.Common.{◌⊎◌, []}
use Rattle.teco_fs.specs.Disk.{Creates, Same}
use Rattle.teco_fs.proofs.Disks.{one_of, there_or_same}
use Rattle.teco_fs.proofs.FileLogs.{passes}
use Rattle.teco_fs.proofs.memory_disk.MemoryDiskDisk.open_to_extend.Goals as goal

pub returns-clause-moments : goal.returns-clause-moments
returns-clause-moments c =
    let extended = c.extended-extended.ensures in
    passes c.args.self.now.log c.extended-extended.new.self (λ before now. Same before now ⊎ Creates c.args.name.now [] before now) extended.grows
    (there_or_same (one_of c.extended-extended.result extended.ok extended.err))
