use Rattle.std.proofs.Common.{refl}
use Rattle.teco_ffi.proofs.kinds.kind_values.Goals as goal

pub returns-clause-splice : goal.returns-clause-splice
returns-clause-splice c = refl

pub returns-clause-number : goal.returns-clause-number
returns-clause-number c = refl
