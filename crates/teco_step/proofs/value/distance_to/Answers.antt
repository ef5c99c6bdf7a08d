use Rattle.std.proofs.Common.{arith}
use Rattle.std.proofs.lemmas.Int.{ints}
use Rattle.teco_step.proofs.value.distance_to.Goals as goal

pub overflow_cast-result : goal.overflow_cast-result
overflow_cast-result g c = search (arith, ints, c.pointer-pointer.ensures, c.line_from.ensures.within)
