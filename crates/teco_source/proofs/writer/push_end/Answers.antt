use Rattle.std.proofs.Common.{rules}
use Rattle.teco_source.proofs.writer.push_end.Goals as goal

pub returns-in-Blank : goal.returns-in-Blank
returns-in-Blank c = search rules
