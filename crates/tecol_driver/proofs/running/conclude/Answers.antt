use Rattle.std.proofs.Common.{inr}
use Rattle.tecol_driver.proofs.running.conclude.Goals as goal

pub returns-in-Err : goal.returns-in-Err
returns-in-Err g c = inr (c.in-Err.ensures.err, c.tell_no_memory.ensures.status, c.tell_no_memory.ensures.told)
