use Rattle.std.proofs.Common.{ap, ◌∙◌, arith}
use Rattle.teco_scan.specs.Scan.{rows_of}
use Rattle.teco_scan.specs.FirstRow.{picks}
use Rattle.teco_scan.proofs.FirstRow.{row_is, picked, row_inside}
use Rattle.teco_scan.proofs.names.first_row.Goals as goal

pub returns-clause-picked : goal.returns-clause-picked
returns-clause-picked c p = ap (λ n. picks (rows_of p) n c.args.b) (c.from.ensures ∙ row_is c.args.b c.from-b.result _ (omega arith) c.from-b.ensures) ∙ picked p c.args.b (omega arith)

pub returns-clause-within : goal.returns-clause-within
returns-clause-within c = omega (arith, c.from.ensures ∙ row_is c.args.b c.from-b.result _ (omega arith) c.from-b.ensures, row_inside c.args.b (omega arith))
