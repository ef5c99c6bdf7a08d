use Rattle.std.proofs.Common.{rules}
use Rattle.teco_cli.proofs.CommandLines.{said_misfit}
use Rattle.teco_cli.proofs.line.fitting.Goals as goal

pub returns-in-Some-clause-refused : goal.returns-in-Some-clause-refused
returns-in-Some-clause-refused c = said_misfit c.args.line c.in-Some.why.now c.faulty_line.result (search rules) c.faulty_line.ensures
