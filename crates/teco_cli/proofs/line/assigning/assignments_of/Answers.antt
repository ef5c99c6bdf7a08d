use Rattle.std.proofs.Common.{◌≡◌, ◌∙◌, ◌++◌, ◌+◌, ◌∷◌, [], sym, subst, take, map}
use Rattle.std.specs.List.{AllZip}
use Rattle.teco_cli.specs.Assignments.{IsAssignment}
use Rattle.teco_cli.proofs.Assigning.{is_kept, one_more, word_of_words}
use Rattle.teco_cli.proofs.line.assigning.assignments_of.Goals as goal

pub returns-in-Err-clause-fault : goal.returns-in-Err-clause-fault
returns-in-Err-clause-fault c = word_of_words c.args.words.now c.loop-word.word-index _ c.loop-word-test.true c.in-Err.fault c.in-Err.ensures.fault

pub loop-word-preserved : goal.loop-word-preserved
loop-word-preserved c =
    let ok = is_kept c.push.result (sym c.is_err.ensures.value ∙ c.if-is_err.false) in
    let items : c.push.new.self.items ≡ c.loop-word.made.items ++ c.in-Ok.assignment ∷ [] = rw ok at c.push.ensures.items in
    subst (λ made. AllZip IsAssignment (map (λ word. word.now) (take (c.loop-word.word-index + 1) c.args.words.now)) made) (sym items)
    (one_more c.args.words.now c.loop-word.word-index _ c.loop-word.made.items c.in-Ok.assignment c.loop-word-test.true c.loop-word.invariant c.in-Ok.ensures.assignment)
