use Rattle.std.proofs.Common.{arith}
use Rattle.std.proofs.lemmas.Grind.{common_steps}
use Rattle.teco_core.specs.Register.{texted}
use Rattle.teco_core.proofs.Contents.{map-changed}
use Rattle.teco_core.proofs.register.Registers.swap_text.Goals as goal

pub returns-clause-put : goal.returns-clause-put
returns-clause-put c =
    let held = c.self.inside.values in
    rw (← c.self.view_is, ← c.index.ensures.value)
    (map-changed held c.index.result c.index-self-index.result _ (texted c.args.text.now.items) (omega arith) (rw c.swap.ensures.x_after))

pub invariant_of-self : goal.invariant_of-self
invariant_of-self c = grind (arith, common_steps)

pub returns-clause-held : goal.returns-clause-held
returns-clause-held c = grind (arith, common_steps)

pub bounds-self-inside-index : goal.bounds-self-inside-index
bounds-self-inside-index c = grind (arith, common_steps)

pub returns-clause-all : goal.returns-clause-all
returns-clause-all c = grind (arith, common_steps)
