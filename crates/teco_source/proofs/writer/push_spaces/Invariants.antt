use Rattle.std.proofs.Common.{◌≡◌, ◌++◌}
use Rattle.teco_source.specs.Listing.{spaces}
use Rattle.teco_source.proofs.writer.push_spaces.Given as goal

abbrev pub invariant-loop : goal.invariant-loop
invariant-loop l = l.out.items ≡ l.fn.out.items ++ spaces l.counter
