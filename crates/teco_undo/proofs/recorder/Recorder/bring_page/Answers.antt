use Rattle.std.proofs.Common.{◌∙◌, ap, arith, length, rules, ◌+◌}
use Rattle.teco_store.specs.Page.{page}
use Rattle.teco_store.specs.State.{Full}
use Rattle.teco_undo.proofs.Loans.{span_is_lent}
use Rattle.teco_undo.proofs.Recordings.{goes_then, goes_more}
use Rattle.teco_undo.proofs.recorder.Recorder.bring_page.Goals as goal

pub returns-clause-full : goal.returns-clause-full
returns-clause-full c =
    let b = c.args.self.now.full.body in
    let is = span_is_lent b c.place-from.result c.args.span (c.place-from.ensures.value ∙ ap (λ (x : Full). x.body.place) c.editor.ensures) c.requires.span in
    let put = rw is at c.put_input.ensures.full in
    search (rules, put)

pub returns-clause-goes : goal.returns-clause-goes
returns-clause-goes c =
    let n = c.args.there + c.args.span.len in
    let len = c.requires.span.len in
    goes_more c.args.self.now c.note_apart.new.self (n + 0) (c.args.there + length (page c.args.self.now.full.body)) 2 2 (omega arith) (omega arith)
    (goes_then c.args.self.now c.put_input.new.self c.note_apart.new.self n 0 1 1 c.put_input.ensures.goes c.note_apart.ensures.goes)
