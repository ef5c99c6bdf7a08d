use Rattle.teco_store.proofs.Naming.{tells_kind}
use Rattle.teco_store.proofs.laws.change_laws.Goals as goal

pub returns : goal.returns
returns c = tells_kind
