use Rattle.std.proofs.Common.{arith}
use Rattle.std.proofs.lemmas.Grind.{common_steps}
use Rattle.teco_store.proofs.editor.EditorDesk.append_page.Goals as goal

pub returns-then-is_past-clause-big : goal.returns-then-is_past-clause-big
returns-then-is_past-clause-big c = grind (arith, common_steps)

pub returns-then-is_past-clause-over : goal.returns-then-is_past-clause-over
returns-then-is_past-clause-over c = grind (arith, common_steps)

pub overflow_add-there : goal.overflow_add-there
overflow_add-there c = grind (arith, common_steps)

pub returns-in_err-reserve-clause-big : goal.returns-in_err-reserve-clause-big
returns-in_err-reserve-clause-big c = grind (arith, common_steps)

pub returns-in_err-reserve-clause-over : goal.returns-in_err-reserve-clause-over
returns-in_err-reserve-clause-over c = grind (arith, common_steps)

pub bring_page-requires-clause-lands : goal.bring_page-requires-clause-lands
bring_page-requires-clause-lands c = grind (arith, common_steps)

pub bring_page-requires-clause-small : goal.bring_page-requires-clause-small
bring_page-requires-clause-small c = grind (arith, common_steps)

pub bring_page-requires-clause-room : goal.bring_page-requires-clause-room
bring_page-requires-clause-room c = grind (arith, common_steps)

pub bring_page-requires-clause-ends : goal.bring_page-requires-clause-ends
bring_page-requires-clause-ends c = grind (arith, common_steps)

pub returns-clause-ok : goal.returns-clause-ok
returns-clause-ok c = grind (arith, common_steps)

pub returns-clause-big : goal.returns-clause-big
returns-clause-big c = grind (arith, common_steps)
