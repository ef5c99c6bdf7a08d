use Rattle.std.proofs.Common.{ap, arith, refl}
use Rattle.std.proofs.lemmas.Grind.{common_steps}
use Rattle.teco_store.specs.State.{state_of}
use Rattle.teco_store.proofs.Exits.{leaves_err}
use Rattle.teco_store.proofs.editor.EditorDesk.splice.Goals as goal

pub returns-then-ins-kept-clause-big : goal.returns-then-ins-kept-clause-big
returns-then-ins-kept-clause-big c = grind (arith, common_steps)

pub returns-in_err-reserve-clause-big : goal.returns-in_err-reserve-clause-big
returns-in_err-reserve-clause-big c = grind (arith, common_steps)

pub invariant_of-self-2 : goal.invariant_of-self-2
invariant_of-self-2 c = grind (arith, common_steps)

pub returns-clause-ok : goal.returns-clause-ok
returns-clause-ok c = grind (arith, common_steps)

pub returns-clause-big : goal.returns-clause-big
returns-clause-big c = grind (arith, common_steps)

pub returns-then-ins-kept-clause-err : goal.returns-then-ins-kept-clause-err
returns-then-ins-kept-clause-err c = refl

pub invariant_of-self : goal.invariant_of-self
invariant_of-self c = rw c.in_err-reserve.ensures.err c.self.invariant

pub returns-in_err-reserve-clause-err : goal.returns-in_err-reserve-clause-err
returns-in_err-reserve-clause-err c = rw c.in_err-reserve.ensures.err (leaves_err _ _ (ap state_of c.self.view_is))
