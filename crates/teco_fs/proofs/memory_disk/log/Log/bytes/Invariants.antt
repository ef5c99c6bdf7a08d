use Rattle.std.proofs.Common.{◌≡◌, drop}
use Rattle.teco_fs.specs.FileLog.{files_of}
use Rattle.teco_fs.proofs.memory_disk.log.Log.bytes.Given as goal

abbrev pub invariant-loop-note : goal.invariant-loop-note
invariant-loop-note l = files_of (drop l.note-index l.note-items) l.name ≡ files_of l.self l.name
