use Rattle.std.proofs.Common.{rules, sym}
use Rattle.teco_store.proofs.Halves.{cut}
use Rattle.teco_store.proofs.pages.part.Goals as goal

pub returns-clause-joined : goal.returns-clause-joined
returns-clause-joined c =
    sym (cut c.args.before.now c.args.after.now c.args.from c.args.to c.min.result c.min-2.result c.saturating_sub.result c.saturating_sub-2.result c.requires.ordered
    (search rules) (search rules) (search rules) (search rules))
