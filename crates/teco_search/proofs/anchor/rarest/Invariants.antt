use Rattle.std.proofs.Common.{◌<◌, length}
use Rattle.teco_search.specs.Anchor.{AreSingle}
use Rattle.teco_search.proofs.anchor.rarest.Given as goal

abbrev pub invariant-offsets : goal.invariant-offsets
invariant-offsets l = record {
  within : l.rarest < length l.elements;
  chosen : AreSingle l.elements l.rarest;
  single : AreSingle l.elements l.offset;
}
