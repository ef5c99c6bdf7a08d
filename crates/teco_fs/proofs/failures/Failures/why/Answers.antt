use Rattle.std.proofs.Common.{rules}
use Rattle.teco_fs.proofs.failures.Failures.why.Goals as goal

pub returns-in-Some-clause-told : goal.returns-in-Some-clause-told
returns-in-Some-clause-told c = search rules
