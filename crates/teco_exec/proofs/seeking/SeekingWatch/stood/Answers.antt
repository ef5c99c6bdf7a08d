use Rattle.teco_exec.proofs.Placings.{has_place}
use Rattle.teco_exec.proofs.seeking.SeekingWatch.stood.Goals as goal

pub returns-clause-told : goal.returns-clause-told
returns-clause-told g c known = let h = has_place c.args._cursor.now.text.bytes.now c.args._at c.requires in (h.0, h.1, tt)
