use Rattle.std.proofs.Common.{◌≡◌}
use Rattle.teco_search.specs.Window.{window_number}
use Rattle.teco_search.proofs.window.Needle.number_of.Given as goal

abbrev pub invariant-bytes : goal.invariant-bytes
invariant-bytes l = l.number ≡ window_number l.text l.start l.i
