use Rattle.std.proofs.Common.{ap, arith, length, ◌≡◌, ◌+◌}
use Rattle.std.proofs.lemmas.Grind.{common_steps}
use Rattle.std.proofs.lemmas.Result.{err_from_is_err_and}
use Rattle.teco_store.specs.Page.{page}
use Rattle.teco_store.specs.State.{Body}
use Rattle.teco_undo.proofs.Recordings.{goes_call}
use Rattle.teco_undo.proofs.recorder.recording.RecorderDesk.append_page.Goals as goal

pub returns-in_err-held-clause-keeps : goal.returns-in_err-held-clause-keeps
returns-in_err-held-clause-keeps c = let p = err_from_is_err_and c.from_residual.result c.from_residual.ensures.1 in rw p.1 c.find_memory.ensures.keeps

pub returns-clause-follows : goal.returns-clause-follows
returns-clause-follows c =
    let n = 0 + length (page c.find_memory.new.self.full.body) in
    let page_is : length (page c.find_memory.new.self.full.body) ≡ length (page c.args.self.now.full.body) = ap (λ (b : Body). length (page b)) c.find_memory.ensures.body in
    goes_call c.args.self.now c.find_memory.new.self c.bring_page.new.self n 2 (length (page c.args.self.now.full.body)) c.find_memory.ensures.keeps c.bring_page.ensures.goes (omega arith) (omega arith)

pub returns-then-is_past-clause-big : goal.returns-then-is_past-clause-big
returns-then-is_past-clause-big c = grind (arith, common_steps)

pub returns-in_err-held-clause-big : goal.returns-in_err-held-clause-big
returns-in_err-held-clause-big c = grind (arith, common_steps)

pub returns-clause-ok : goal.returns-clause-ok
returns-clause-ok c = grind (arith, common_steps)

pub returns-clause-big : goal.returns-clause-big
returns-clause-big c = grind (arith, common_steps)
