use Rattle.std.proofs.Common.{refl}
use Rattle.teco_store.proofs.change.TextSpan.kind.Goals as goal

pub returns : goal.returns
returns c = refl
