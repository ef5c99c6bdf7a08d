use Rattle.std.proofs.Common.{rules, FitsSigned, w32, arith}
use Rattle.std.proofs.lemmas.Grind.{common_steps}
use Rattle.std.proofs.lemmas.Int.{to_z-of_z}
use Rattle.teco_core.specs.Register.{numbered}
use Rattle.teco_core.proofs.Contents.{map-changed}
use Rattle.teco_core.proofs.register.Registers.set_number.Goals as goal

pub returns-clause-put : goal.returns-clause-put
returns-clause-put c =
    let held = c.self.inside.values in
    let fits : FitsSigned w32 c.args.number = search rules in
    rw (← c.self.view_is, ← c.index.ensures.value)
    (map-changed held c.index.result c.index-self-index.result _ (numbered c.args.number) (omega arith) (rw (to_z-of_z w32 c.args.number fits)))

pub invariant_of-self : goal.invariant_of-self
invariant_of-self c = grind (arith, common_steps)

pub bounds-self-inside-index : goal.bounds-self-inside-index
bounds-self-inside-index c = grind (arith, common_steps)

pub returns-clause-all : goal.returns-clause-all
returns-clause-all c = grind (arith, common_steps)
