use Rattle.std.proofs.Common.{rules}
use Rattle.teco_store.proofs.Naming.{tells_kind}
use Rattle.teco_store.proofs.change.Change.kind.Goals as goal

pub returns : goal.returns
returns c =
    let tells = tells_kind c.kind.result c.args.self.now.turn (search rules) in
    record { kind = tells.kind_is; only = tells.only; back = tells.back }
