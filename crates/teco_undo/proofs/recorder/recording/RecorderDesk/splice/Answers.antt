use Rattle.std.proofs.Common.{ap, arith, length, ◌≡◌, ◌∙◌, ◌+◌}
use Rattle.std.proofs.lemmas.Grind.{common_steps}
use Rattle.teco_undo.proofs.Fitting.{lands_within, pointer_is}
use Rattle.teco_undo.proofs.Recordings.{goes_call}
use Rattle.teco_undo.proofs.recorder.recording.RecorderDesk.splice.Goals as goal

pub replace-requires-clause-lands : goal.replace-requires-clause-lands
replace-requires-clause-lands c =
    let lands = lands_within c.args.self.now.full.body c.args.at c.args.del c.args.ins.now c.args.point c.requires.there c.requires.lands in
    let pointer = c.unwrap_or.ensures ∙ pointer_is c.args.at c.args.ins.now c.args.point in
    let text : length c.find_held.new.self.full.body.text ≡ length c.args.self.now.full.body.text = ap (λ b. length b.text) c.find_held.ensures.body in
    omega arith

pub returns-clause-follows : goal.returns-clause-follows
returns-clause-follows c =
    let n = c.args.del + length c.args.ins.now in
    goes_call c.args.self.now c.find_held.new.self c.replace.new.self n 1 n c.find_held.ensures.keeps c.replace.ensures.goes (omega arith) (omega arith)

pub returns-then-is_past-clause-big : goal.returns-then-is_past-clause-big
returns-then-is_past-clause-big c = grind (arith, common_steps)

pub returns-in_err-held-clause-big : goal.returns-in_err-held-clause-big
returns-in_err-held-clause-big c = grind (arith, common_steps)
