use Rattle.std.proofs.Common.{ap, arith, length, ◌≡◌, ◌∙◌, ◌+◌}
use Rattle.std.proofs.lemmas.Grind.{common_steps}
use Rattle.teco_store.specs.Page.{page, page_load}
use Rattle.teco_store.specs.State.{Body, Full, state_of}
use Rattle.teco_undo.proofs.Recordings.{goes_call}
use Rattle.teco_undo.proofs.recorder.recording.RecorderDesk.read_page.Goals as goal

pub returns-clause-follows : goal.returns-clause-follows
returns-clause-follows c =
    let n = c.len-there.result + length (page c.hold_page.new.self.full.body) in
    let page_is : length (page c.hold_page.new.self.full.body) ≡ length (page c.args.self.now.full.body) = ap (λ (b : Body). length (page b)) c.hold_page.ensures.body in
    let len : c.len-there.result ≡ length c.args.self.now.full.body.text = c.len-there.ensures.value ∙ ap (λ (x : Full). length x.body.text) c.editor-editor.ensures in
    goes_call c.args.self.now c.hold_page.new.self c.bring_page.new.self n 2 (page_load (state_of c.args.self.now.full)) c.hold_page.ensures.keeps c.bring_page.ensures.goes (omega arith) (omega arith)

pub returns-clause-ok : goal.returns-clause-ok
returns-clause-ok c = grind (arith, common_steps)
