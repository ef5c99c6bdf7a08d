use Rattle.std.proofs.Common.{rules}
use Rattle.teco_cli.proofs.options.action_of.Goals as goal

pub returns-in-Texts : goal.returns-in-Texts
returns-in-Texts c = search rules
