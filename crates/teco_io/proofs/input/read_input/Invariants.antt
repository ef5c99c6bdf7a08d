use Rattle.std.proofs.Common.{◌≤◌, false, length}
use Rattle.teco_io.specs.Source.{Gives}
use Rattle.teco_io.proofs.input.read_input.Given as goal

abbrev pub invariant-pieces : goal.invariant-pieces
invariant-pieces g l = record {
  given : Gives g.S.Source.coming g.S.Source.bound g.S.Source.failures l.fn.source l.source l.input.items false;
  most : length l.input.items ≤ l.max;
}

abbrev pub decreases-pieces : goal.decreases-pieces
decreases-pieces g l = g.S.Source.bound l.source
