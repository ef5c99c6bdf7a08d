use Rattle.teco_fs.specs.Disk.{AppendsFront}
use Rattle.teco_fs.specs.FileLog.{files_of}
use Rattle.teco_fs.proofs.FileLogs.{changed_by, passes}
use Rattle.teco_fs.proofs.Writings.{on_err_by}
use Rattle.teco_fs.proofs.memory_disk.MemoryDiskDisk.write.Goals as goal

pub returns-clause-err : goal.returns-clause-err
returns-clause-err c = on_err_by c.counted.result (changed_by (files_of c.args.self.now.log) (files_of c.written-written.new.self) (AppendsFront c.args.name.now c.args.bytes.now) c.written-written.ensures.front)

pub returns-clause-moments : goal.returns-clause-moments
returns-clause-moments c = passes c.args.self.now.log c.written-written.new.self (AppendsFront c.args.name.now c.args.bytes.now) c.written-written.ensures.grows c.written-written.ensures.front
