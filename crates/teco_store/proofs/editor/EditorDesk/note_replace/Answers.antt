use Rattle.std.proofs.Common.{arith, rules}
use Rattle.std.proofs.lemmas.Grind.{common_steps}
use Rattle.teco_store.proofs.editor.EditorDesk.note_replace.Goals as goal

pub overflow_sub-kept : goal.overflow_sub-kept
overflow_sub-kept c = grind (arith, common_steps)

pub returns-then-is_long-clause-big : goal.returns-then-is_long-clause-big
returns-then-is_long-clause-big c = grind (arith, common_steps)

pub overflow_add-kept : goal.overflow_add-kept
overflow_add-kept c = grind (arith, common_steps)

pub returns-in_err-reserve-clause-big : goal.returns-in_err-reserve-clause-big
returns-in_err-reserve-clause-big c = grind (arith, common_steps)

pub returns-in_err-reserve-clause-err : goal.returns-in_err-reserve-clause-err
returns-in_err-reserve-clause-err c = search rules

pub returns-in_err-note_text-clause-big : goal.returns-in_err-note_text-clause-big
returns-in_err-note_text-clause-big c = grind (arith, common_steps)

pub invariant_of-self : goal.invariant_of-self
invariant_of-self c = grind (arith, common_steps)

pub returns-clause-ok : goal.returns-clause-ok
returns-clause-ok c = grind (arith, common_steps)
