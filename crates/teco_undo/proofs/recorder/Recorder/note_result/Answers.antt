use Rattle.std.proofs.Common.{arith, option_map, rules, ◌+◌, length, option_to_list, ◌≡◌}
use Rattle.teco_undo.specs.Follows.{FollowsAfterChanges}
use Rattle.teco_store.specs.Search.{fresh_load}
use Rattle.teco_undo.proofs.Recordings.{goes_more, goes_then}
use Rattle.teco_undo.proofs.recorder.Recorder.note_result.Goals as goal

pub returns-then-found-last_result-clause-goes : goal.returns-then-found-last_result-clause-goes
returns-then-found-last_result-clause-goes c =
    let r = c.args.self.now in
    let n = fresh_load r.full.body.last_search (option_map (λ v. v.items) c.args.text) in
    let first : FollowsAfterChanges n 1 r c.match-text.self = search rules in
    goes_more r c.note.new.self (n + 0) n 2 2 (omega arith) (omega arith)
    (goes_then r c.match-text.self c.note.new.self n 0 1 1 first c.note.ensures.goes)

pub returns-else-found-last_result-clause-goes : goal.returns-else-found-last_result-clause-goes
returns-else-found-last_result-clause-goes c =
    let r = c.args.self.now in
    let n = fresh_load r.full.body.last_search (option_map (λ v. v.items) c.args.text) in
    let first : FollowsAfterChanges n 1 r c.match-text.self = search rules in
    goes_more r c.match-text.self n n 1 2 (omega arith) (omega arith) first

pub returns-then-found-last_result-clause-apart : goal.returns-then-found-last_result-clause-apart
returns-then-found-last_result-clause-apart c = λ k spare apart.
    let mid : c.match-text.self.apart + length (option_to_list c.args.text) ≡ c.args.self.now.apart = search rules in
    c.note.ensures.apart k spare (omega arith)
