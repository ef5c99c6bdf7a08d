use Rattle.std.proofs.Common.{arith}
use Rattle.teco_scan.specs.Scan.{rows_of}
use Rattle.teco_scan.proofs.FirstRow.{rows_here}
use Rattle.teco_scan.proofs.names.first_row_at.Goals as goal

pub returns-clause-same : goal.returns-clause-same
returns-clause-same c p = rows_here (rows_of p) c.first_row.result c.args.text.now c.args.at (omega arith) (c.first_row.ensures.picked p)
