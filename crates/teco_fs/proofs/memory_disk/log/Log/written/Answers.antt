use Rattle.std.proofs.Common.{◌++◌, take, ap, sym, ◌∙◌}
use Rattle.std.proofs.Math.Seq.{take-length}
use Rattle.std.proofs.lemmas.Result.{on_ok_weaker}
use Rattle.teco_fs.proofs.FileLogs.{appends, front_of, grows_by}
use Rattle.teco_fs.proofs.memory_disk.log.Log.written.Goals as goal
use Rattle.teco_fs.proofs.memory_disk.log.Log.written.Goals.{then-is_refused, else-is_refused}

pub returns-then-is_refused-2-clause-front : goal.returns-then-is_refused-2-clause-front
returns-then-is_refused-2-clause-front c = front_of _ _ _ c.args.bytes.now c.in_ok-all.all.items c.if-is_refused.n c.note-noted.result c.in_ok-all.ensures (rw c.in_ok-extend_from_slice.ensures.items at c.note-noted.ensures.ok) c.note-noted.ensures.err

pub returns-clause-front : goal.returns-clause-front
returns-clause-front c = front_of _ _ _ c.args.bytes.now c.in_ok-all.all.items c.if-is_refused.n c.note-noted.result c.in_ok-all.ensures (rw c.in_ok-extend_from_slice.ensures.items at c.note-noted.ensures.ok) c.note-noted.ensures.err

pub returns-then-is_refused-2-clause-grows : goal.returns-then-is_refused-2-clause-grows
returns-then-is_refused-2-clause-grows c = grows_by _ _ _ c.note-noted.result c.note-noted.ensures.ok c.note-noted.ensures.err

pub returns-clause-grows : goal.returns-clause-grows
returns-clause-grows c = grows_by _ _ _ c.note-noted.result c.note-noted.ensures.ok c.note-noted.ensures.err

pub returns-clause-ok : goal.returns-clause-ok
returns-clause-ok c =
    let had = c.in_ok-all.all.items in
    elim c.if-is_refused.branch [
      | then-is_refused w ↦ absurd (let t = sym w.if-is_refused.true ∙ c.if-is_refused-2.false in cc)
      | else-is_refused w ↦
          let whole = c.in_ok-extend_from_slice.ensures.items ∙ ap (λ bytes. had ++ bytes) (ap (λ n. take n c.args.bytes.now) w.n-is ∙ take-length c.args.bytes.now) in
          on_ok_weaker c.note-noted.result (λ more. appends c.in_ok-all.ensures (rw whole at more)) c.note-noted.ensures.ok
    ]
