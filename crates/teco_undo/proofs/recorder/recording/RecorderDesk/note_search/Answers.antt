use Rattle.std.proofs.Common.{ap, arith, ◌+◌, ◌∙◌}
use Rattle.std.specs.Option.{option_copied}
use Rattle.teco_store.specs.Search.{fresh, note_load}
use Rattle.teco_store.specs.State.{Full, state_of}
use Rattle.teco_undo.proofs.Recordings.{goes_call, goes_then}
use Rattle.teco_undo.proofs.Searches.{fresh_load_noted}
use Rattle.teco_undo.proofs.recorder.recording.RecorderDesk.note_search.Goals as goal

pub returns-clause-follows : goal.returns-clause-follows
returns-clause-follows c =
    let text = option_copied c.args.text in
    let n = note_load (state_of c.args.self.now.full) text in
    let load = fresh_load_noted (state_of c.args.self.now.full) text _ _ (ap (λ (x : Full). x.body.last_search) c.reserve.ensures.full)
    (c.in_ok-text.ensures.copy ∙ ap (λ (x : Full). fresh x.body.last_search text) c.editor.ensures) in
    goes_call c.args.self.now c.reserve.new.self c.note.new.self (_ + 0) 3 n c.reserve.ensures.keeps
    (goes_then c.reserve.new.self c.note_result.new.self c.note.new.self _ 0 2 1 c.note_result.ensures.goes c.note.ensures.goes)
    (omega (arith, load)) (omega arith)
