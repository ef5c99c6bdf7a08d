use Rattle.std.proofs.Common.{ap, arith, length, option_to_list, rules, ◌≤◌, ◌+◌, ◌∙◌}
use Rattle.std.proofs.lemmas.Grind.{common_steps}
use Rattle.std.proofs.lemmas.Result.{err_from_is_err_and}
use Rattle.std.specs.Option.{option_copied}
use Rattle.teco_store.specs.Search.{fresh, note_load}
use Rattle.teco_store.specs.State.{Body, Full, state_of}
use Rattle.teco_undo.proofs.Recordings.{goes_call, goes_then}
use Rattle.teco_undo.proofs.Searches.{fresh_load_noted}
use Rattle.teco_undo.specs.Holding.{held_apart}
use Rattle.teco_undo.proofs.OneByte.{one_apart}
use Rattle.teco_undo.proofs.recorder.recording.RecorderDesk.note_replace.Goals as goal

pub returns-in_err-held-clause-keeps : goal.returns-in_err-held-clause-keeps
returns-in_err-held-clause-keeps c = let p = err_from_is_err_and c.from_residual-in_err-held.result c.from_residual-in_err-held.ensures.1 in rw p.1 c.find_held.ensures.keeps

pub returns-clause-follows : goal.returns-clause-follows
returns-clause-follows c =
    let text = option_copied c.args.text in
    let m = c.args.del + length c.args.ins.now in
    let n = note_load (state_of c.args.self.now.full) text + m in
    let load = fresh_load_noted (state_of c.args.self.now.full) text _ _ (ap (λ (b : Body). b.last_search) c.find_held.ensures.body)
    (c.in_ok-text.ensures.copy ∙ ap (λ (x : Full). fresh x.body.last_search text) c.editor-2.ensures) in
    goes_call c.args.self.now c.find_held.new.self c.replace.new.self (_ + m) 3 n c.find_held.ensures.keeps
    (goes_then c.find_held.new.self c.note_result.new.self c.replace.new.self _ m 2 1 c.note_result.ensures.goes c.replace.ensures.goes)
    (omega (arith, load)) (omega arith)

pub returns-then-is_long-clause-big : goal.returns-then-is_long-clause-big
returns-then-is_long-clause-big c = grind (arith, common_steps)

pub returns-in_err-text-clause-big : goal.returns-in_err-text-clause-big
returns-in_err-text-clause-big c = grind (arith, common_steps)

pub returns-in_err-held-clause-big : goal.returns-in_err-held-clause-big
returns-in_err-held-clause-big c = grind (arith, common_steps)

pub replace-requires-clause-apart : goal.replace-requires-clause-apart
replace-requires-clause-apart c =
    let bytes = c.args.del + length c.args.ins.now in
    let few = one_apart bytes in
    let found : 3 ≤ c.find_held.new.self.spare = search rules in
    let apart : length (option_to_list c.in_ok-text.text) + held_apart bytes ≤ c.find_held.new.self.apart = search rules in
    let left = c.note_result.ensures.spare in
    c.note_result.ensures.apart (held_apart bytes) (omega arith) (omega arith)
