use Rattle.std.proofs.Common.{inr}
use Rattle.tecol_driver.proofs.running.program.Goals as goal

pub returns-in-Ok : goal.returns-in-Ok
returns-in-Ok g c = inr (record { line = c.in-Ok.line; line_is = c.in-Ok.ensures.line; run = rw c.from.ensures c.keep.ensures })
