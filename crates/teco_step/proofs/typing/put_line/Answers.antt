use Rattle.std.proofs.Common.{arith}
use Rattle.std.proofs.lemmas.Grind.{common_steps}
use Rattle.teco_step.proofs.typing.put_line.Goals as goal

pub returns-then-modifiers-eq1-clause-puts : goal.returns-then-modifiers-eq1-clause-puts
returns-then-modifiers-eq1-clause-puts g c = grind (arith, common_steps)

pub returns-then-modifiers-eq1-clause-some : goal.returns-then-modifiers-eq1-clause-some
returns-then-modifiers-eq1-clause-some g c = grind (arith, common_steps)

pub slice_bounds-line-end : goal.slice_bounds-line-end
slice_bounds-line-end g c = grind (arith, common_steps)

pub slice_bounds-copy_from_slice-end : goal.slice_bounds-copy_from_slice-end
slice_bounds-copy_from_slice-end g c = grind (arith, common_steps)

pub copy_from_slice-requires : goal.copy_from_slice-requires
copy_from_slice-requires g c = grind (arith, common_steps)

pub overflow_add-end : goal.overflow_add-end
overflow_add-end g c = grind (arith, common_steps)

pub slice_bounds-copy_from_slice-count : goal.slice_bounds-copy_from_slice-count
slice_bounds-copy_from_slice-count g c = grind (arith, common_steps)

pub slice_bounds-line-start : goal.slice_bounds-line-start
slice_bounds-line-start g c = grind (arith, common_steps)

pub slice_bounds-line-end-2 : goal.slice_bounds-line-end-2
slice_bounds-line-end-2 g c = grind (arith, common_steps)

pub copy_from_slice-requires-2 : goal.copy_from_slice-requires-2
copy_from_slice-requires-2 g c = grind (arith, common_steps)

pub overflow_add-line : goal.overflow_add-line
overflow_add-line g c = grind (arith, common_steps)

pub slice_bounds-line-end-3 : goal.slice_bounds-line-end-3
slice_bounds-line-end-3 g c = grind (arith, common_steps)

pub slice_bounds-put_some-end : goal.slice_bounds-put_some-end
slice_bounds-put_some-end g c = grind (arith, common_steps)

pub returns-clause-puts : goal.returns-clause-puts
returns-clause-puts g c = grind (arith, common_steps)

pub returns-clause-some : goal.returns-clause-some
returns-clause-some g c = grind (arith, common_steps)
