use Rattle.std.proofs.Common.{◌+◌, arith}
use Rattle.memchr.proofs.lemmas.FindLemmas.{Nowhere-then}
use Rattle.teco_search.proofs.Tables.{nowhere_in_part}
use Rattle.teco_search.proofs.passing.rows_before.Goals as goal

pub rows-preserved : goal.rows-preserved
rows-preserved g c = record {
  within = omega arith;
  none = Nowhere-then c.rows.invariant.none (nowhere_in_part (g.T.Test.admits c.args.test.now) c.args.bytes.now c.rows.from (c.rows.from + 16) (omega arith) (omega arith) (c.is_in_row.ensures c.if-is_in_row.false));
}
