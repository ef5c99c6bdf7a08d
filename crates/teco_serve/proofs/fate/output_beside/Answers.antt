use Rattle.std.proofs.Common.{rules}
use Rattle.teco_serve.proofs.fate.output_beside.Goals as goal

pub returns : goal.returns
returns c = search rules
