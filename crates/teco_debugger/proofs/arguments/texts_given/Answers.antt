use Rattle.std.proofs.Common.{rules}
use Rattle.teco_debugger.proofs.arguments.texts_given.Goals as goal

pub returns-in-Some : goal.returns-in-Some
returns-in-Some c = search rules
