use Rattle.std.proofs.Common.{refl}
use Rattle.teco_fs.proofs.output.write_output.Goals as goal

pub returns-clause-moments : goal.returns-clause-moments
returns-clause-moments g c = c.write_output_by.ensures.moments refl
