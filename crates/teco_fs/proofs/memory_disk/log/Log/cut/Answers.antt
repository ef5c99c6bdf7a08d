use Rattle.std.proofs.lemmas.Result.{on_ok_weaker}
use Rattle.teco_fs.proofs.FileLogs.{cuts, grows_by}
use Rattle.teco_fs.proofs.memory_disk.log.Log.cut.Goals as goal

pub returns-clause-ok : goal.returns-clause-ok
returns-clause-ok c = on_ok_weaker c.note.result (λ more. cuts c.in_ok-all.ensures (rw c.truncate.ensures.items at more)) c.note.ensures.ok

pub returns-clause-grows : goal.returns-clause-grows
returns-clause-grows c = grows_by _ _ _ c.note.result c.note.ensures.ok c.note.ensures.err
