use Rattle.std.proofs.Common.{length, sym, ap, arith}
use Rattle.teco_search.specs.Search.{sought_forward}
use Rattle.teco_search.proofs.Begins.{ready_some}
use Rattle.teco_search.proofs.Occurring.{forward-none}
use Rattle.teco_search.proofs.search.count_forward.Goals as goal

pub returns-then-from-len-clause-value : goal.returns-then-from-len-clause-value
returns-then-from-len-clause-value g c =
    sym (ap length (forward-none (sought_forward c.args.search.now) c.args.text.now (ready_some c.args.search.now c.requires) c.args.from (λ k low high. absurd (omega arith))))
