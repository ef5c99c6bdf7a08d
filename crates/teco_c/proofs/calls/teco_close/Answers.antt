use Rattle.std.proofs.Common.{rules}
use Rattle.teco_c.proofs.calls.teco_close.Goals as goal

pub returns : goal.returns
returns c = search rules
