use Rattle.std.proofs.Common.{◌≡◌, ◌++◌, ℕ, List, false}
use Rattle.teco_io.specs.Source.{Gives}
use Rattle.teco_store.specs.Slices.{bytes_in}
use Rattle.teco_fs.proofs.comparing.gives_just.Given as goal

abbrev pub invariant-pieces : goal.invariant-pieces
invariant-pieces g l = (given : List ℕ) × Gives g.S.Source.coming g.S.Source.bound g.S.Source.failures l.fn.source l.source given false
    × (bytes_in l.bytes ≡ given ++ (l.front ++ bytes_in l.left))

abbrev pub decreases-pieces : goal.decreases-pieces
decreases-pieces g l = g.S.Source.bound l.source
