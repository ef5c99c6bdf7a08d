use Rattle.std.proofs.Common.{◌+◌, ◌++◌, List, sym, arith, subst}
use Rattle.std.proofs.lemmas.Grind.{common_steps}
use Rattle.tecol_driver.specs.declared.synonyms.Change.{Change}
use Rattle.tecol_driver.specs.Synonyms.{AreChanges}
use Rattle.tecol_driver.proofs.Found.{faulty_last, part_more, rest_last, string_more}
use Rattle.tecol_driver.proofs.synonyms.changes_in.Goals as goal

pub returns-then-not-branch : goal.returns-then-not-branch
returns-then-not-branch c =
    let commands = c.args.commands.now in
    let put = c.in_ok-push_string.ensures in
    subst (AreChanges commands 0) (sym put.1)
    (c.loop-long.invariant.all put.0 (faulty_last commands c.loop-long.start c.in-Some.long c.in_ok-push_string.field-0 put.0 (c.in-Some.ensures.1, c.in-Some.ensures.2) put.2 c.if-not-branch.true))

pub loop-long-preserved : goal.loop-long-preserved
loop-long-preserved c =
    let commands = c.args.commands.now in
    let put = c.in_ok-push_string.ensures in
    record {
      within = grind (arith, common_steps);
      all = λ later rest. subst (λ (changes : List Change). AreChanges commands 0 (changes ++ later)) (sym put.1)
          (part_more (AreChanges commands c.loop-long.start) (AreChanges commands (c.loop-long.start + c.in-Some.long + 1)) (AreChanges commands 0) c.loop-long.changes.items put.0
          (string_more commands c.loop-long.start c.in-Some.long c.in_ok-push_string.field-0 put.0 (c.in-Some.ensures.1, c.in-Some.ensures.2) put.2 c.if-not-branch.false)
          c.loop-long.invariant.all later rest);
    }

pub returns : goal.returns
returns c =
    let commands = c.args.commands.now in
    let put = c.in_ok-push_tokens.ensures in
    subst (AreChanges commands 0) (sym put.1)
    (c.loop-long.invariant.all put.0 (rest_last commands c.loop-long.start c.in_ok-push_tokens.field-0 put.0 c.in_default.ensures put.2))
