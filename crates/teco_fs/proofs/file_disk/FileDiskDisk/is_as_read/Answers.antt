use Rattle.std.proofs.Common.{rules}
use Rattle.teco_fs.proofs.file_disk.FileDiskDisk.is_as_read.Goals as goal

pub returns-in-Ok-clause-right : goal.returns-in-Ok-clause-right
returns-in-Ok-clause-right g c = search rules
