use Rattle.std.proofs.Common.{◌≤◌}
use Rattle.teco_search.proofs.frequency.frequency_of_list.Given as goal

abbrev pub invariant-items : goal.invariant-items
invariant-items l = l.sum ≤ 1000
