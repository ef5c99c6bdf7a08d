use Rattle.std.proofs.Common.{◌≡◌, take, []}
use Rattle.teco_scan.specs.Stream.{texts_of, ends_in_escape}
use Rattle.teco_scan.proofs.stream.pair_end.Given as goal

abbrev pub invariant-loop-at : goal.invariant-loop-at
invariant-loop-at l = record {
  none : texts_of (take l.at l.bytes) ≡ [];
  last : ends_in_escape (take l.at l.bytes) ≡ l.escape;
}
