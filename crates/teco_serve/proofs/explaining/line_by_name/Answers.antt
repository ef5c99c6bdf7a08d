use Rattle.std.proofs.Common.{arith}
use Rattle.std.proofs.lemmas.Grind.{common_steps}
use Rattle.teco_serve.proofs.explaining.line_by_name.Goals as goal

pub returns-in-Unchanged : goal.returns-in-Unchanged
returns-in-Unchanged c = rw c.in-Unchanged.is c.line_about.ensures

pub returns-in-NoCommands : goal.returns-in-NoCommands
returns-in-NoCommands c = rw c.in-NoCommands.is c.new.ensures.bytes

pub returns-in-Lacking : goal.returns-in-Lacking
returns-in-Lacking c = rw c.in-Lacking.is c.line_about-in-Lacking.ensures

pub returns-in-Ended-Exit : goal.returns-in-Ended-Exit
returns-in-Ended-Exit c =
    let exit = rw c.in-Ended-Exit.is at c.in-Ended-Exit.field-0-is in
    rw (c.in-Ended-Exit.is, exit) c.line_about-in-Ended-Exit.ensures

pub returns-in-Ended-EndOfCommands : goal.returns-in-Ended-EndOfCommands
returns-in-Ended-EndOfCommands c =
    let end = rw c.in-Ended-EndOfCommands.is at c.in-Ended-EndOfCommands.field-0-is in
    rw (c.in-Ended-EndOfCommands.is, end) c.line_about-in-Ended-EndOfCommands.ensures

pub returns-in-NoInput : goal.returns-in-NoInput
returns-in-NoInput c = grind (arith, common_steps)
