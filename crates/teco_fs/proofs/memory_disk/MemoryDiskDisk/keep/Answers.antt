use Rattle.teco_fs.specs.Disk.{IsKeepingBy}
use Rattle.teco_fs.proofs.Disks.{kept_or_same, leaves_none, one_of}
use Rattle.teco_fs.proofs.FileLogs.{passes}
use Rattle.teco_fs.proofs.memory_disk.MemoryDiskDisk.keep.Goals as goal

pub returns-clause-err : goal.returns-clause-err
returns-clause-err c = rw c.counted.ensures.same (leaves_none _ _ c.args._temporary.now c.kept-kept.result c.kept-kept.ensures.err)

pub returns-clause-moments : goal.returns-clause-moments
returns-clause-moments c =
    let kept = c.kept-kept.ensures in
    passes c.args.self.now.log c.kept-kept.new.self (IsKeepingBy c.args.file.now c.args._temporary.now c.args.backup.now) kept.grows
    (kept_or_same c.args._temporary.now (one_of c.kept-kept.result kept.ok kept.err))
