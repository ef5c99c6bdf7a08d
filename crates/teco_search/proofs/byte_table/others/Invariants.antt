use Rattle.std.proofs.Common.{◌≡◌, ◌<◌, ℕ, not, length}
use Rattle.teco_search.specs.ByteSet.{in_table}
use Rattle.teco_search.proofs.byte_table.others.Given as goal

abbrev pub invariant-bytes : goal.invariant-bytes
invariant-bytes l = record {
  whole : length l.others ≡ 256;
  told : (b : ℕ) → b < l.byte → in_table l.others b ≡ not (in_table l.table b);
}
