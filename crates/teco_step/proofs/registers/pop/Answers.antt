use Rattle.teco_core.specs.ArgumentsView.{arguments}
use Rattle.teco_step.specs.Registers.{pop}
use Rattle.teco_step.specs.Step.{goes}
use Rattle.teco_step.proofs.Acting.{acts_undone, memory_why}
use Rattle.teco_step.proofs.registers.pop.Goals as goal

pub returns-in_err-pop : goal.returns-in_err-pop
returns-in_err-pop g c =
    let s = g.D.Desk.state c.args.desk.now in
    let a = arguments c.args.args.now in
    let d = c.in_err-pop.ensures in
    acts_undone (goes (pop c.args.q)) s _ a _ _ _ c.from_residual.result c.from_residual.ensures.1
    (memory_why _ _ d.only_memory) d.err d.keeps
