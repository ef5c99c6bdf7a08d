use Rattle.std.proofs.Common.{◌⊎◌}
use Rattle.teco_fs.specs.Disk.{CutsTo, Same}
use Rattle.teco_fs.proofs.Disks.{cut_or_same, one_of}
use Rattle.teco_fs.proofs.FileLogs.{passes}
use Rattle.teco_fs.proofs.memory_disk.MemoryDiskDisk.cut.Goals as goal

pub returns-clause-moments : goal.returns-clause-moments
returns-clause-moments c =
    let cut = c.cut-cut.ensures in
    passes c.args.self.now.log c.cut-cut.new.self (λ before now. Same before now ⊎ CutsTo c.args.name.now c.args.length before now) cut.grows
    (cut_or_same (one_of c.cut-cut.result cut.ok cut.err))
