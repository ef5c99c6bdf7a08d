use Rattle.std.proofs.Common.{sym}
use Rattle.std.proofs.lemmas.Result.{on_ok_weaker}
use Rattle.teco_fs.proofs.FileLogs.{creates, grows_by, others_of}
use Rattle.teco_fs.proofs.memory_disk.log.Log.made.Goals as goal

pub returns-clause-ok : goal.returns-clause-ok
returns-clause-ok c = on_ok_weaker c.note.result (λ more. creates (sym c.in-None.ensures) (rw c.new-empty.ensures.items at more)) c.note.ensures.ok

pub returns-clause-others : goal.returns-clause-others
returns-clause-others c = others_of _ _ _ _ c.note.result c.note.ensures.ok c.note.ensures.err

pub returns-clause-grows : goal.returns-clause-grows
returns-clause-grows c = grows_by _ _ _ c.note.result c.note.ensures.ok c.note.ensures.err
