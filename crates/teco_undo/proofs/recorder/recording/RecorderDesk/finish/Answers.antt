use Rattle.std.proofs.Common.{arith, length, ◌+◌}
use Rattle.std.proofs.lemmas.Grind.{common_steps}
use Rattle.teco_undo.proofs.Recordings.{goes_call, goes_then}
use Rattle.teco_undo.proofs.recorder.recording.RecorderDesk.finish.Goals as goal

pub returns-clause-follows : goal.returns-clause-follows
returns-clause-follows c =
    let r = c.args.self.now in
    let n = length r.full.body.text in
    goes_call r r c.note.new.self (n + 0 + 0) 3 n (λ t f. f)
    (goes_then r c.note_apart.new.self c.note.new.self (n + 0) 0 2 1
    (goes_then r c.write_rest.new.self c.note_apart.new.self n 0 1 1 c.in_ok-write_rest.ensures.goes c.note_apart.ensures.goes) c.note.ensures.goes)
    (omega arith) (omega arith)

pub returns-clause-ok : goal.returns-clause-ok
returns-clause-ok c = grind (arith, common_steps)
