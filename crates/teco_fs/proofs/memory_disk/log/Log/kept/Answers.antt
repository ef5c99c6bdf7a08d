use Rattle.std.proofs.lemmas.Result.{on_ok_weaker}
use Rattle.teco_fs.proofs.FileLogs.{grows_by, keeps_as}
use Rattle.teco_fs.proofs.memory_disk.log.Log.kept.Goals as goal

pub returns-clause-ok : goal.returns-clause-ok
returns-clause-ok c = on_ok_weaker c.note.result (keeps_as c.in_ok-bytes.ensures) c.note.ensures.ok

pub returns-clause-grows : goal.returns-clause-grows
returns-clause-grows c = grows_by _ _ _ c.note.result c.note.ensures.ok c.note.ensures.err
