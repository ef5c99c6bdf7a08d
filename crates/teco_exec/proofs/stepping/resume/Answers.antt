use Rattle.std.proofs.Common.{None, Some, refl, subst, sym, ap, ◌∙◌}
use Rattle.teco_exec.specs.CursorMoves.{after_jump}
use Rattle.teco_exec.specs.Machine.{after_step_end, ready_of}
use Rattle.teco_exec.specs.Running.{Comes, at_cursor, at_token, config, goes, over, reached_by_flow}
use Rattle.teco_exec.specs.View.{cursor, item_of_kind}
use Rattle.teco_step.specs.Stepping.{name_in}
use Rattle.teco_step.specs.Ending.{end_of}
use Rattle.teco_exec.proofs.Going.{alike}
use Rattle.teco_exec.proofs.Stepped.{ends_so, is_over, moves_on, goes_further}
use Rattle.teco_exec.proofs.Standings.{unless_stays}
use Rattle.teco_exec.proofs.stepping.resume.Goals as goal

pub returns-in-On-clause-resumes : goal.returns-in-On-clause-resumes
returns-in-On-clause-resumes c s callers now = ends_so callers now s c.args.cursor.now c.args.token.now _ _ (goes (at_cursor c.args.cursor.now callers)) c.in-On.is (alike refl)

pub returns-in-Leave-clause-resumes : goal.returns-in-Leave-clause-resumes
returns-in-Leave-clause-resumes c s callers now = ends_so callers now s c.args.cursor.now c.args.token.now _ _ (reached_by_flow c.leave.new.self callers c.on_unless.result) c.in-Leave.is (moves_on callers now c.args.cursor.now c.leave.new.self c.leave.ensures.text c.leave.result _ c.on_unless.ensures _ c.leave.ensures.moves)

pub returns-in-Go-clause-resumes : goal.returns-in-Go-clause-resumes
returns-in-Go-clause-resumes c s callers now = ends_so callers now s c.args.cursor.now c.args.token.now _ _ (reached_by_flow c.jump.new.self callers c.on_unless-in-Go.result) c.in-Go.is (moves_on callers now c.args.cursor.now c.jump.new.self c.jump.ensures.text c.jump.result _ c.on_unless-in-Go.ensures _ (c.jump.ensures.moves ∙ ap (λ name. after_jump c.args.cursor.now.text.profile name c.args.cursor.now.text.bytes.now (cursor c.args.cursor.now).blocks (cursor c.args.cursor.now).args) (c.name_of-name.ensures.named c.args.cursor.now.text.bytes.now c.requires.token)))

pub returns-in-Again-clause-resumes : goal.returns-in-Again-clause-resumes
returns-in-Again-clause-resumes c s callers now = ends_so callers now s c.args.cursor.now c.args.token.now _ _ (goes (at_token c.args.cursor.now c.args.token.now (Some c.in-Again.work) callers)) c.in-Again.is (goes_further callers now c.args.cursor.now c.args.token.now c.in-Again.work)

pub returns-in-Out-clause-resumes : goal.returns-in-Out-clause-resumes
returns-in-Out-clause-resumes c s callers now = ends_so callers now s c.args.cursor.now c.args.token.now _ _ (over None) c.in-Out.is (is_over callers now c.args.cursor.now None)

pub returns-in-Error-clause-resumes : goal.returns-in-Error-clause-resumes
returns-in-Error-clause-resumes c s callers now =
    let from = c.args.cursor.now in
    subst (λ f. Comes (ready_of (after_step_end c.args.token.now.modifiers (item_of_kind from.text.bytes.now c.args.token.now.kind) (end_of s (name_in from.text.bytes.now c.args.token.now) c.args.next) (config from.text.profile from.text.bytes.now (cursor from) None callers now))) now (reached_by_flow from callers f)) (sym c.failed.ensures)
    (ends_so callers now s from c.args.token.now _ _ (over (Some c.in-Error.code)) c.in-Error.is (is_over callers now from (Some c.in-Error.code)))

pub returns-in-Leave-clause-stays : goal.returns-in-Leave-clause-stays
returns-in-Leave-clause-stays c = unless_stays c.args.cursor.now c.leave.new.self c.leave.result c.on_unless.result c.on_unless.ensures c.leave.ensures.stays

pub returns-in-Go-clause-stays : goal.returns-in-Go-clause-stays
returns-in-Go-clause-stays c = unless_stays c.args.cursor.now c.jump.new.self c.jump.result c.on_unless-in-Go.result c.on_unless-in-Go.ensures c.jump.ensures.stays

pub jump-requires : goal.jump-requires
jump-requires c = c.name_of-name.ensures.inside c.args.cursor.now.text.bytes.now c.requires.token
