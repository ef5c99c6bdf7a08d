use Rattle.std.proofs.Common.{◌≡◌, ◌++◌, ℕ, List, false}
use Rattle.teco_io.specs.Source.{Gives}
use Rattle.teco_io.proofs.comparing.gives_just.Given as goal

abbrev pub invariant-pieces : goal.invariant-pieces
invariant-pieces g l = (given : List ℕ) × Gives g.S.Source.coming g.S.Source.bound g.S.Source.failures l.fn.source l.source given false
    × (l.bytes.0.now ++ l.bytes.1.now ≡ given ++ (l.left.0.now ++ l.left.1.now))

abbrev pub decreases-pieces : goal.decreases-pieces
decreases-pieces g l = g.S.Source.bound l.source
