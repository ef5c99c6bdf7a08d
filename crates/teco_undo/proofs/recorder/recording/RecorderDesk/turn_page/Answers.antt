use Rattle.std.proofs.Common.{ap, arith, length, ◌≡◌, ◌∙◌, ◌+◌}
use Rattle.std.proofs.lemmas.Grind.{common_steps}
use Rattle.teco_undo.specs.Follows.{StillFollows}
use Rattle.teco_store.specs.Page.{page, page_load}
use Rattle.teco_store.specs.State.{Body, Full, state_of}
use Rattle.teco_undo.proofs.Recordings.{goes_call, keeps_then}
use Rattle.teco_undo.proofs.recorder.recording.RecorderDesk.turn_page.Goals as goal

pub returns-clause-follows : goal.returns-clause-follows
returns-clause-follows c =
    let r = c.args.self.now in
    let s = c.store_upto.new.self in
    let n = c.len-there.result + length (page s.full.body) in
    let body : s.full.body ≡ r.full.body = ap (λ (x : Full). x.body) c.in_ok-store_upto.ensures.ok ∙ c.hold_page.ensures.body in
    let page_is : length (page s.full.body) ≡ length (page r.full.body) = ap (λ (b : Body). length (page b)) body in
    let len : c.len-there.result ≡ length r.full.body.text = c.len-there.ensures.value ∙ ap (λ (x : Full). length x.body.text) c.editor-editor.ensures in
    let keeps : StillFollows r s = keeps_then r c.hold_page.new.self s c.hold_page.ensures.keeps c.store_upto.ensures.keeps in
    goes_call r s c.bring_page.new.self n 2 (page_load (state_of r.full)) keeps c.bring_page.ensures.goes (omega arith) (omega arith)

pub returns-clause-ok : goal.returns-clause-ok
returns-clause-ok c = grind (arith, common_steps)
